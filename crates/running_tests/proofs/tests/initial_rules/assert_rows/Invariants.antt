use Rattle.std.proofs.Common.{◌≡◌}
use Rattle.std.specs.Prelude.{true}
use Rattle.running_tests.proofs.tests.initial_rules.assert_rows.Given as goal

abbrev pub invariant-loop-row : goal.invariant-loop-row
invariant-loop-row g l = record {
  own : l.pass.table ≡ l.table;
  online : l.pass.online ≡ true;
}
