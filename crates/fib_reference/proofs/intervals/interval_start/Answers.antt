use Rattle.std.proofs.Common.{arith, refl}
use Rattle.fib_reference.proofs.Events.{found_more}
use Rattle.fib_reference.proofs.intervals.interval_start.Goals as goal

pub loop-place-preserved : goal.loop-place-preserved
loop-place-preserved c =
    let after = c.since_after-since.ensures in
    found_more c.args.events.now c.loop-place.place c.args.w _ _ c.loop-place.since c.since_after-since.result (omega arith) refl c.loop-place.invariant after.begins after.ends after.other
