use Rattle.std.proofs.Common.{◌≡◌, drop}
use Rattle.lpm_rules.specs.RuleMap.{with_rules}
use Rattle.lpm_commands.specs.FilledTable.{IsFilled}
use Rattle.lpm_commands.proofs.tables.add_last.Given as goal

abbrev pub invariant-loop-index : goal.invariant-loop-index
invariant-loop-index l = record {
  config : l.table.config ≡ l.fn.table.config;
  filled : IsFilled l.fn.table.config l.table.table;
  rest : with_rules l.table.table.rules (drop l.index l.rules) ≡ with_rules l.fn.table.table.rules l.rules;
}
