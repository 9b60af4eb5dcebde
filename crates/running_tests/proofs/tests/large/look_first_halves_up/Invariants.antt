use Rattle.std.proofs.Common.{◌≡◌}
use Rattle.std.specs.Prelude.{true}
use Rattle.running_tests.proofs.tests.large.look_first_halves_up.Given as goal

abbrev pub invariant-loop-number : goal.invariant-loop-number
invariant-loop-number g l = record {
  own : l.pass.table ≡ l.table;
  online : l.pass.online ≡ true;
}
