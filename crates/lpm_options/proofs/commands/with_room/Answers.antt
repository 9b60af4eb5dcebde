use Rattle.std.specs.Fmt.{digits}
use Rattle.lpm_options.proofs.commands.with_room.Goals as goal

pub returns : goal.returns
unfolding digits
returns c = λ app made. c.with_arg.ensures _ _ (c.with_arg-made.ensures app _ made c.number.ensures.rule) c.number-2.ensures.rule
