use Rattle.lpm_options.proofs.commands.lookup_command.Goals as goal

pub returns : goal.returns
returns c = c.with_limits.ensures _ (c.with_arg-made-2.ensures _ _ (c.with_arg-made.ensures _ _ c.bare_command-made.ensures c.file.ensures.rule) c.file-2.ensures.rule)
