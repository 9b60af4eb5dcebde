use Rattle.std.proofs.Common.{ℕ, ◌<◌, get_or}
use Rattle.fib_reference.specs.Accounts.{events_of}
use Rattle.fib_model.proofs.Unique.{IsUnheld}
use Rattle.fib_reference.proofs.limbo.PlainLimbo.front.Given as goal

-- no worker holds one of those so far
abbrev pub invariant-loop-freed : goal.invariant-loop-freed
invariant-loop-freed l = (k : ℕ) → k < l.freed → IsUnheld l.config (events_of l.self) (get_or l.self.places.items k 0)
