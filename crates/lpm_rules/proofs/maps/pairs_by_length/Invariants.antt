use Rattle.std.proofs.Common.{◌+◌, take}
use Rattle.lpm_rules.specs.RuleMap.{AllNetworks, rules_of}
use Rattle.lpm_rules.specs.Changes.{ArePairs}
use Rattle.lpm_rules.proofs.maps.pairs_by_length.Given as goal

abbrev pub invariant-loop-rule : goal.invariant-loop-rule
invariant-loop-rule g l = record {
  pairs : ArePairs (take l.rule-index l.rules) l.lists;
  networks : AllNetworks (g.row.FIRST + g.row.SECOND) (rules_of (take l.rule-index l.rules));
}
