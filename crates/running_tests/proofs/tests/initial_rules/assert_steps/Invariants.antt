use Rattle.std.proofs.Common.{◌≡◌}
use Rattle.std.specs.Prelude.{true}
use Rattle.running_tests.proofs.tests.initial_rules.assert_steps.Given as goal

abbrev pub invariant-loop-step : goal.invariant-loop-step
invariant-loop-step g l = record {
  writer : l.writer.identity ≡ l.table;
  pass : l.pass.table ≡ l.table;
  online : l.pass.online ≡ true;
}
