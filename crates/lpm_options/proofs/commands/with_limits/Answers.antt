use Rattle.std.specs.Fmt.{digits}
use Rattle.lpm_options.proofs.commands.with_limits.Goals as goal

pub returns : goal.returns
unfolding digits
returns c = λ app made.
    let workers = c.with_arg-made.ensures _ _ (c.with_room-made.ensures app made) c.number.ensures.rule in
    let threshold = c.with_arg-made-2.ensures _ _ workers c.number-threshold.ensures.rule in
    c.with_arg.ensures _ _ threshold c.number-2.ensures.rule
