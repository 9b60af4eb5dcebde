use Rattle.std.proofs.Common.{◌≡◌, length, map}
use Rattle.lpm_rules.specs.RuleMap.{with_rules}
use Rattle.lpm_commands.specs.Load.{rule_of}
use Rattle.lpm_commands.specs.FilledTable.{IsFilled}
use Rattle.lpm_commands.proofs.tables.add_pieces.Given as goal

abbrev pub invariant-loop-rest : goal.invariant-loop-rest
invariant-loop-rest l = record {
  config : l.table.config ≡ l.fn.table.config;
  filled : IsFilled l.fn.table.config l.table.table;
  rest : with_rules l.table.table.rules (map rule_of l.rest) ≡ with_rules l.fn.table.table.rules (map rule_of l.routes);
}

abbrev pub decreases-loop-rest : goal.decreases-loop-rest
decreases-loop-rest l = length l.rest
