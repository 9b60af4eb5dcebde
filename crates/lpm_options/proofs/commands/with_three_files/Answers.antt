use Rattle.lpm_options.proofs.commands.with_three_files.Goals as goal

pub returns : goal.returns
returns c = λ app made. c.with_limits.ensures _ (c.with_arg-made.ensures _ _ (c.with_routes_and_updates-made.ensures app made) c.file.ensures.rule)
