-- Meaning: a rule list as a finite map from prefixes to next hops (DPDK Programmer's Guide, "LPM
-- Library": a rule has an address, a depth and a next hop, and no two rules have the same address
-- and depth).
use Rattle.std.specs.Prelude.{ℕ, ◌≡◌, ◌<◌, ◌≤◌, Some, None, IsSome, refl, ◌+◌, ◌*◌, List, fold, length, map, slice_index_or, ◌⊎◌, Option, ⊤}
use Rattle.std.specs.declared.cmp.Ordering.{Ordering}
use Rattle.std.specs.Ordering.{nat_cmp, ordering_then}
use Rattle.std.specs.FinMap.{FinMap, get, insert, remove, empty}
use Rattle.std.specs.Coded.{Coded, code_by, coded×, coded_ℕ}
use Rattle.lpm_bits.specs.Network.{Network, IsNetwork}
use Rattle.lpm_rules.specs.declared.Rule.{Rule}
use Rattle.std.specs.FinMap as rules

-- by bits, and then by length
abbrev pub network_cmp : Network → Network → Ordering
network_cmp p q = ordering_then (nat_cmp p.bits q.bits) (nat_cmp p.len q.len)

abbrev pub coded_network : Coded Network
coded_network =
    code_by (ℕ × ℕ) (coded× coded_ℕ coded_ℕ)
    (λ p. (p.bits, p.len)) (λ p. record { bits = p.0; len = p.1 }) (λ _. refl)

-- the rules: a finite map from prefixes to next hops
abbrev pub RuleMap : Type 0
RuleMap = FinMap network_cmp ℕ

-- the rules, and the greatest number of rules
pub record RuleList : Type 0 where
  pub rules : RuleMap
  pub max : ℕ

abbrev pub coded_rule_list : Coded RuleList
coded_rule_list =
    code_by (RuleMap × ℕ) (coded× (rules.code coded_network coded_ℕ) coded_ℕ)
    (λ l. (l.rules, l.max)) (λ p. record { rules = p.0; max = p.1 }) (λ _. refl)

-- the list with this rule put in
abbrev pub with_rule : RuleList → Network → ℕ → RuleList
with_rule l p h = record l { rules = insert l.rules p h }

-- the list with the rule of this prefix taken out
abbrev pub without_rule : RuleList → Network → RuleList
without_rule l p = record l { rules = remove l.rules p }

-- the prefix has no rule, and there is room for one more
abbrev pub HasRoomFor : RuleList → Network → Type 0
HasRoomFor l p = (get l.rules p ≡ None) × (rules.len l.rules < l.max)

-- the prefix has no rule, and the list holds its greatest number of rules
abbrev pub LacksRoomFor : RuleList → Network → Type 0
LacksRoomFor l p = (get l.rules p ≡ None) × (l.max ≤ rules.len l.rules)

-- each prefix of the list is one of addresses of `width` bits, with its host bits cleared
abbrev pub AllNetworks : ℕ → RuleMap → Type 0
AllNetworks width R = (q : Network) → IsSome (get R q) → IsNetwork width q

-- to take out a rule that was new gives the list that was
abbrev pub RemoveUndoesPut : Type 0
RemoveUndoesPut = (R : RuleMap) (p : Network) (h : ℕ) → get R p ≡ None → remove (insert R p h) p ≡ R

-- to put back a rule that was taken out gives the list that was
abbrev pub PutUndoesRemove : Type 0
PutUndoesRemove = (R : RuleMap) (p : Network) (h : ℕ)
    → get R p ≡ Some h → insert (remove R p) p h ≡ R

-- A list of rules as a rule list (DPDK Programmer's Guide, "LPM Library": "Addition" gives a prefix
-- its next hop, in place of the one that it may have), and the order of prefixes (this project's).

-- the rules after those of a list were put in, one after another
abbrev pub with_rules : {first second : ℕ} → RuleMap → List (Rule first second) → RuleMap
with_rules {first} {second} R rs =
    fold (λ (Q : RuleMap) (r : Rule first second). insert Q r.prefix r.hop) R rs

-- the rules of a list; a prefix that comes more than once has its last hop
abbrev pub rules_of : {first second : ℕ} → List (Rule first second) → RuleMap
rules_of rs = with_rules empty rs

-- where a prefix stands in the order: by its bits, and then by its length, which is at most 32
abbrev pub place : Network → ℕ
place p = p.bits * 64 + p.len

-- the prefix of the rule at a place of the list
abbrev pub prefix_at : {first second : ℕ} → List (Rule first second) → ℕ → Network
prefix_at {first} {second} rs k =
    slice_index_or (map (λ (r : Rule first second). r.prefix) rs) k (record { bits = 0; len = 0 })

-- the rules are in the order of their prefixes
abbrev pub AreInOrder : {first second : ℕ} → List (Rule first second) → Type 0
AreInOrder rs = (j k : ℕ) → j ≤ k → k < length rs
    → place (prefix_at rs j) ≤ place (prefix_at rs k)

-- no prefix of the rules stands behind this place of the order
abbrev pub AllUpTo : RuleMap → ℕ → Type 0
AllUpTo R m = (q : Network) → IsSome (get R q) → place q ≤ m

-- The next rule of a walk over the rules in the order of their prefixes (this project's: `place`).

-- p comes after the prefix where a walk stands; before the walk has begun each does
abbrev pub ComesAfter : Option Network → Network → Type 0
ComesAfter None p = ⊤
ComesAfter (Some last) p = place last < place p

-- the rule comes after the prefix, and no rule lies between; none where no rule comes after it
abbrev pub IsNextRule : {first second : ℕ} → RuleMap → Option Network → Option (Rule first second)
    → Type 0
IsNextRule R after None = (p : Network) → IsSome (get R p) → ComesAfter after p → ⊥
IsNextRule R after (Some rule) = (get R rule.prefix ≡ Some rule.hop)
    × ComesAfter after rule.prefix
    × ((p : Network) → IsSome (get R p) → ComesAfter after p → place rule.prefix ≤ place p)

-- the same of the rules of one length
abbrev pub IsNextOfLength : {first second : ℕ} → ℕ → RuleMap → Option Network
    → Option (Rule first second) → Type 0
IsNextOfLength len R after None =
    (p : Network) → p.len ≡ len → IsSome (get R p) → ComesAfter after p → ⊥
IsNextOfLength len R after (Some rule) = (get R rule.prefix ≡ Some rule.hop)
    × ComesAfter after rule.prefix
    × ((p : Network) → p.len ≡ len → IsSome (get R p) → ComesAfter after p
    → place rule.prefix ≤ place p)

-- of two rules that may be there, the one that comes earlier
abbrev pub IsEarlier : {first second : ℕ} → Option (Rule first second) → Option (Rule first second)
    → Option (Rule first second) → Type 0
IsEarlier None other rule = rule ≡ other
IsEarlier (Some one) None rule = rule ≡ Some one
IsEarlier (Some one) (Some other) rule =
    ((rule ≡ Some one) × (place one.prefix ≤ place other.prefix))
    ⊎ ((rule ≡ Some other) × (place other.prefix ≤ place one.prefix))
