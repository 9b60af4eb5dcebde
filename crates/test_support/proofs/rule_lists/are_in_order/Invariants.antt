use Rattle.std.proofs.Common.{◌≡◌, ◌⊎◌, ℕ, ◌<◌, ◌≤◌}
use Rattle.lpm_rules.specs.RuleMap.{place, prefix_at}
use Rattle.test_support.proofs.rule_lists.are_in_order.Given as goal

abbrev pub invariant-loop-rule : goal.invariant-loop-rule
invariant-loop-rule g l = record {
  ordered : (j k : ℕ) → j ≤ k → k < l.rule-index → place (prefix_at l.rules j) ≤ place (prefix_at l.rules k);
  last : (l.last ≡ 0) ⊎ ((j : ℕ) × (j < l.rule-index) × (place (prefix_at l.rules j) ≡ l.last));
  below : (j : ℕ) → j < l.rule-index → place (prefix_at l.rules j) ≤ l.last;
}
