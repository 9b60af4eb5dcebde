use Rattle.std.proofs.Common.{arith, subst, reverse}
use Rattle.qsbr.specs.Intervals.{IsRunningSince}
use Rattle.fib_model.specs.Textbook.{by_reports}
use Rattle.qsbr.proofs.RunningIntervals.{held_start}
use Rattle.fib_reference.specs.Accounts.{events_of}
use Rattle.fib_reference.proofs.limbo.PlainLimbo.held_by.Goals as goal

pub returns-then-start-place : goal.returns-then-start-place
returns-then-start-place c = λ h.
    let E = events_of c.args.self.now in
    let k = held_start by_reports E c.args.place c.args.worker h in
    let same = c.requires.sound.one c.args.worker k.0 c.in_ok-start.start k.1 (subst (λ l. IsRunningSince by_reports (reverse l) c.args.worker c.in_ok-start.start) c.deref.ensures.value c.in_ok-start.ensures) in
    let below = k.2 in
    absurd (omega (arith, same, below))
