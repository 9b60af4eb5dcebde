use Rattle.std.proofs.Common.{◌≡◌}
use Rattle.running_tests.proofs.tests.beside.change_all.Given as goal

abbrev pub invariant-loop : goal.invariant-loop
invariant-loop l = record { own : l.writer.identity ≡ l.table }
