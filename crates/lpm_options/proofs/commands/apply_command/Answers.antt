use Rattle.lpm_options.proofs.commands.apply_command.Goals as goal

pub returns : goal.returns
returns c = c.with_three_files.ensures _ c.bare_command-made.ensures
