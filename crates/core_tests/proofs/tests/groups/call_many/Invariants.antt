use Rattle.std.proofs.Common.{◌≡◌}
use Rattle.core_tests.proofs.tests.groups.call_many.Given as goal

abbrev pub invariant-loop-call : goal.invariant-loop-call
invariant-loop-call g l = record { same : l.states ≡ l.groups }
