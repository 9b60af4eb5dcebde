use Rattle.lpm_options.proofs.commands.migrate_command.Goals as goal

pub returns : goal.returns
returns c = c.with_arg.ensures _ _ c.bare_command-made.ensures c.file.ensures.rule
