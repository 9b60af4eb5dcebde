use Rattle.std.proofs.Common.{◌≡◌, ℕ, ◌<◌, ◌≤◌, length, take}
use Rattle.std.specs.Prelude.{IsSome}
use Rattle.std.specs.FinMap.{len, get}
use Rattle.lpm_bits.specs.Network.{Network}
use Rattle.lpm_rules.specs.RuleMap.{AllUpTo, place, prefix_at, rules_of}
use Rattle.lpm_rules.proofs.places.count_rules.Given as goal

abbrev pub invariant-loop-index : goal.invariant-loop-index
invariant-loop-index g l = record {
  counted : l.count ≡ len (rules_of (take l.index l.rules));
  few : l.count ≤ l.index;
  within : l.index ≤ length l.rules;
  before : AllUpTo (rules_of (take l.index l.rules)) l.last;
  seen : (q : Network) × IsSome (get (rules_of (take l.index l.rules)) q) × (place q ≡ l.last) × (q.len ≤ 32);
  rising : (k : ℕ) → l.index ≤ k → k < length l.rules → l.last ≤ place (prefix_at l.rules k);
}
