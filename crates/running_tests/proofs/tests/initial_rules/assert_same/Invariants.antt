use Rattle.std.proofs.Common.{◌≡◌}
use Rattle.std.specs.Prelude.{true}
use Rattle.running_tests.proofs.tests.initial_rules.assert_same.Given as goal

abbrev pub invariant-loop-addr : goal.invariant-loop-addr
invariant-loop-addr g l = record {
  own : l.pass.table ≡ l.table;
  online : l.pass.online ≡ true;
}
