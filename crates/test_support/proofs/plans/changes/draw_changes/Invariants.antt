use Rattle.std.proofs.Common.{◌≡◌, length}
use Rattle.test_support.proofs.plans.changes.draw_changes.Given as goal

abbrev pub invariant-loop : goal.invariant-loop
invariant-loop g l = length l.changes.items ≡ l.counter
