use Rattle.std.proofs.Common.{◌≡◌, ◌≤◌, take}
use Rattle.lpm_rules.specs.RuleMap.{rules_of}
use Rattle.fib_model.specs.Outcomes.{groups_in_use}
use Rattle.lpm_commands.proofs.sorted_rules.count_groups.Given as goal

abbrev pub invariant-loop-index : goal.invariant-loop-index
invariant-loop-index l = record {
  counted : l.count ≡ groups_in_use 24 8 (rules_of (take l.index l.rules));
  few : l.count ≤ l.index;
}
