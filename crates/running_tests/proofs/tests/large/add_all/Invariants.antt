use Rattle.std.proofs.Common.{◌≡◌}
use Rattle.running_tests.proofs.tests.large.add_all.Given as goal

abbrev pub invariant-loop-number : goal.invariant-loop-number
invariant-loop-number g l = record { own : l.writer.identity ≡ l.table }
