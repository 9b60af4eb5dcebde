-- The next rule of a walk, length by length.
use Rattle.std.proofs.Common.{arith, ◌≡◌, ℕ, ◌<◌, ◌≤◌, ◌↔◌, refl, ap, sym, ◌∙◌, subst, List, ◌∷◌, Option, Some, None}
use Rattle.std.specs.Prelude.{IsSome, IfSome}
use Rattle.std.specs.List.{slice_get}
use Rattle.std.specs.Ordering.{nat_cmp}
use Rattle.std.specs.FinMap as rules
use Rattle.std.specs.BTreeMap as tree
use Rattle.std.specs.BTreeMap.{BTreeMap}
use Rattle.std.specs.BTreeMap.Range.{IsRangeOf, IsEntryInRange, IsFromStart, IsLeBy}
use Rattle.std.specs.declared.ops.Bound.{Bound}
use Rattle.std.specs.declared.ops.Bound.TheVariants.{Unbounded}
use Rattle.std.proofs.lemmas.Map.Keys.{le_from_not_gt}
use Rattle.lpm_bits.specs.Network.{Network, prefix_of}
use Rattle.lpm_rules.specs.RuleMap.{RuleMap, AllNetworks, place, ComesAfter}
use Rattle.lpm_rules.specs.declared.Rule.{Rule}
use Rattle.lpm_rules.proofs.Views.{at_network}

-- ---- the next rule of one length, by the first key of a range

module _ (R : RuleMap) (m : BTreeMap ℕ ℕ) (len : ℕ) (after : Option Network) (start : Bound ℕ) (r : List (ℕ × ℕ)) (has : (b : ℕ) → tree.get nat_cmp m b ≡ rules.get R (at_network b len))
    (starts : (b : ℕ) → IsFromStart nat_cmp start b ↔ ComesAfter after (at_network b len)) (range : IsRangeOf nat_cmp start Unbounded m r) (b h : ℕ) (t : List (ℕ × ℕ)) (is : r ≡ (b, h) ∷ t) where
  first : IsEntryInRange nat_cmp start Unbounded m (b, h)
  first = subst (λ es. IfSome (slice_get es 0) (IsEntryInRange nat_cmp start Unbounded m)) is range.1

  -- the first key of the range is that of a rule
  pub next_has : rules.get R (at_network b len) ≡ Some h
  next_has = sym (has b) ∙ first.1

  pub next_after : ComesAfter after (at_network b len)
  next_after = (starts b).0 first.0.0

  pub next_least : (p : Network) → p.len ≡ len → IsSome (rules.get R p) → ComesAfter after p → place (at_network b len) ≤ place p
  next_least p e some past =
      let key = subst IsSome (ap (λ l. rules.get R (at_network p.bits l)) e ∙ sym (has p.bits)) some in
      let inside = (starts p.bits).1 (subst (λ l. ComesAfter after (at_network p.bits l)) e past) in
      let least = subst (λ es. IfSome (slice_get es 0) (λ (x : ℕ × ℕ). IsLeBy nat_cmp x.0 p.bits)) is (range.2 p.bits (inside, tt) key) in
      let up = le_from_not_gt b p.bits least in
      omega (arith, up, e)

-- the prefix that is made of the bits of a rule is that of the rule
pub same_prefix : (width len b h : ℕ) (R : RuleMap) (p : Network) → AllNetworks width R → rules.get R (at_network b len) ≡ Some h → p ≡ prefix_of width len b → p ≡ at_network b len
same_prefix width len b h R p nets some e =
    let net = nets (at_network b len) (subst IsSome (sym some) refl) in
    e ∙ ap (λ x. at_network x len) net.2

-- ---- the next rule of the lengths before one

-- no rule that is shorter than len lies between; none where none that is shorter comes after
abbrev pub IsNextBelow : {first second : ℕ} → ℕ → RuleMap → Option Network → Option (Rule first second) → Type 0
IsNextBelow len R after None = (p : Network) → p.len < len → IsSome (rules.get R p) → ComesAfter after p → ⊥
IsNextBelow len R after (Some rule) = (rules.get R rule.prefix ≡ Some rule.hop) × ComesAfter after rule.prefix
    × ((p : Network) → p.len < len → IsSome (rules.get R p) → ComesAfter after p → place rule.prefix ≤ place p)
