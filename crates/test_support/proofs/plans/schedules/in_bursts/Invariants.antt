use Rattle.std.proofs.Common.{◌≡◌, length}
use Rattle.test_support.proofs.plans.schedules.in_bursts.Given as goal

abbrev pub invariant-loop : goal.invariant-loop
invariant-loop l = length l.items.items ≡ l.counter
