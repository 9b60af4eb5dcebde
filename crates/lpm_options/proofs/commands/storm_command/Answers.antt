use Rattle.lpm_options.proofs.commands.storm_command.Goals as goal

pub returns : goal.returns
returns c = c.with_arg.ensures _ _ (c.with_arg-made.ensures _ _ (c.with_three_files-made.ensures _ c.bare_command-made.ensures) c.number.ensures.rule) c.flag.ensures.rule
