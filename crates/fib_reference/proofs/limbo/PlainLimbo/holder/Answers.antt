use Rattle.std.proofs.Common.{arith, below_more, refl}
use Rattle.fib_reference.specs.Accounts.{events_of}
use Rattle.fib_model.proofs.LimboFront.{first_holder}
use Rattle.fib_reference.proofs.Events.{none_hold}
use Rattle.fib_reference.proofs.limbo.PlainLimbo.holder.Goals as goal

pub returns-in-Some : goal.returns-in-Some
returns-in-Some c =
    let held = c.in-Some.ensures in
    (first_holder c.args.config.now (events_of c.args.self.now) c.args.place c.loop-worker.worker held.2.0 c.in-Some.busy c.requires.sound held.0 held.1 held.2.1 held.2.2 c.loop-worker.invariant, refl)

pub loop-worker-preserved : goal.loop-worker-preserved
loop-worker-preserved c = below_more _ _ c.loop-worker.invariant c.in_default.ensures

pub returns : goal.returns
returns c = (none_hold c.args.config.now (events_of c.args.self.now) c.args.place c.requires.sound (λ w low. c.loop-worker.invariant w (omega (arith, low))), refl)
