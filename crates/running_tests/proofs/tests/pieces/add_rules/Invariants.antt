use Rattle.std.proofs.Common.{◌≡◌}
use Rattle.running_tests.proofs.tests.pieces.add_rules.Given as goal

abbrev pub invariant-loop-plain : goal.invariant-loop-plain
invariant-loop-plain g l = record { own : l.writer.identity ≡ l.table }
