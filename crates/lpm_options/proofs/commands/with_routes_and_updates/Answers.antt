use Rattle.lpm_options.proofs.commands.with_routes_and_updates.Goals as goal

pub returns : goal.returns
returns c = λ app made. c.with_arg.ensures _ _ (c.with_arg-made.ensures app _ made c.file.ensures.rule) c.file-2.ensures.rule
