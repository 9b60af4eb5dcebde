use Rattle.std.proofs.Common.{ℕ, ◌<◌}
use Rattle.qsbr.specs.Intervals.{IsHeldByWorker}
use Rattle.fib_model.specs.Textbook.{by_reports}
use Rattle.fib_reference.specs.Accounts.{events_of}
use Rattle.fib_reference.proofs.limbo.PlainLimbo.holder.Given as goal

-- no worker so far holds it
abbrev pub invariant-loop-worker : goal.invariant-loop-worker
invariant-loop-worker l = (w : ℕ) → w < l.worker → IsHeldByWorker by_reports (events_of l.self) l.place w → ⊥
