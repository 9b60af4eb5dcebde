use Rattle.std.proofs.Common.{◌≡◌}
use Rattle.std.specs.Prelude.{true}
use Rattle.running_tests.proofs.tests.groups.play_by_table.Given as goal

abbrev pub invariant-loop-edit : goal.invariant-loop-edit
invariant-loop-edit g l = record {
  writer : l.writer.identity ≡ l.table;
  pass : l.pass.table ≡ l.table;
  online : l.pass.online ≡ true;
}
