-- Meaning: the rules after a change, and after a list of changes (DPDK Programmer's Guide, "LPM
-- Library": "Addition" gives a prefix its next hop, in place of the one that it may have;
-- "Deletion" takes out a rule that is there), and laws that follow: the last change of a prefix
-- decides.
use Rattle.std.specs.Prelude.{ℕ, ◌≡◌, ◌≢◌, ⊤, List, ◌∷◌, ◌++◌, All, Some, None, fold, ◌+◌, ◌<◌, ◌≤◌, slice_index_or, nat_eq, length, map, filter}
use Rattle.std.specs.FinMap.{get, insert, remove, empty}
use Rattle.lpm_bits.specs.Network.{Network}
use Rattle.lpm_rules.specs.RuleMap.{RuleMap, AllNetworks, rules_of}
use Rattle.lpm_rules.specs.declared.Change.{Change}
use Rattle.lpm_rules.specs.declared.Change.TheVariants.{Add, Delete, Flush, Reclaim, Synchronize}
use Rattle.std.specs.Ordering.{nat_cmp}
use Rattle.std.specs.BTreeMap.{BTreeMap, IsFromIterResult}
use Rattle.std.specs.declared.vec.Vec.{Vec}
use Rattle.lpm_rules.specs.View.{rules_of_lengths}
use Rattle.lpm_rules.specs.declared.Rule.{Rule}
use Rattle.std.specs.BTreeMap as tree

-- the rules after a change; the last two are of groups alone
abbrev pub rules_with : {first second : ℕ} → RuleMap → Change first second → RuleMap
rules_with R (Add p h) = insert R p h
rules_with R (Delete p) = remove R p
rules_with R Flush = empty
rules_with R (Reclaim n) = R
rules_with R Synchronize = R

-- the rules after these changes, in order
abbrev pub rules_after : {first second : ℕ} → RuleMap → List (Change first second) → RuleMap
rules_after R changes = fold rules_with R changes

-- the change leaves the rule of this prefix as it is
abbrev pub Spares : {first second : ℕ} → Network → Change first second → Type 0
Spares p (Add q h) = p ≢ q
Spares p (Delete q) = p ≢ q
Spares p Flush = ⊥
Spares p (Reclaim n) = ⊤
Spares p Synchronize = ⊤

-- a prefix that each change spares keeps its rule
abbrev pub SparedIsKept : Type 0
SparedIsKept = (first second : ℕ) (R : RuleMap) (p : Network) (changes : List (Change first second))
    → All (Spares p) changes → get (rules_after R changes) p ≡ get R p

-- a prefix has the next hop of its last addition, where each later change spares it
abbrev pub LastAdditionDecides : Type 0
LastAdditionDecides = (first second : ℕ) (R : RuleMap) (p : Network) (h : ℕ)
    → (before after : List (Change first second))
    → All (Spares p) after → get (rules_after R (before ++ Add p h ∷ after)) p ≡ Some h

-- a prefix has no rule after its last deletion, where each later change spares it
abbrev pub LastDeletionDecides : Type 0
LastDeletionDecides = (first second : ℕ) (R : RuleMap) (p : Network)
    → (before after : List (Change first second))
    → All (Spares p) after → get (rules_after R (before ++ Delete p ∷ after)) p ≡ None

-- a prefix has no rule after the last flush, where each later change spares it
abbrev pub LastFlushDecides : Type 0
LastFlushDecides = (first second : ℕ) (R : RuleMap) (p : Network)
    → (before after : List (Change first second))
    → All (Spares p) after → get (rules_after R (before ++ Flush ∷ after)) p ≡ None

-- Rules that are kept in a map for each length, each collected from the rules of its length (this
-- project's); and this layer's own, the lists that they are collected from.

-- the bits and hops of the rules of this length, in their order
abbrev pub pairs_of : {first second : ℕ} → ℕ → List (Rule first second) → List (ℕ × ℕ)
pairs_of {first} {second} len rs =
    map {B = ℕ × ℕ} (λ (r : Rule first second). (r.prefix.bits, r.hop))
    (filter (λ (r : Rule first second). nat_eq r.prefix.len len) rs)

-- 33 lists, and at each length the list has the pairs of the rules of that length
pub record ArePairs {first second : ℕ} {Z : Type 0} (rs : List (Rule first second))
    (lists : List (Vec (ℕ × ℕ) Z)) : Type 0 where
  pub long : length lists ≡ 33
  pub each : (len : ℕ) (d : Vec (ℕ × ℕ) Z) → len < 33
      → (slice_index_or lists len d).items ≡ pairs_of len rs

-- 33 maps, and at each length the map is collected from the list
pub record AreCollected {Z : Type 0} (lists : List (Vec (ℕ × ℕ) Z))
    (ms : List (BTreeMap ℕ ℕ)) : Type 0 where
  pub long : length ms ≡ 33
  pub each : (len : ℕ) (l : Vec (ℕ × ℕ) Z) (m : BTreeMap ℕ ℕ) → len < 33
      → IsFromIterResult nat_cmp (slice_index_or lists len l).items (slice_index_or ms len m)

-- a map that is collected from the pairs of one length has what the rules have of that length
abbrev pub CollectedIsOfLength : Type 0
CollectedIsOfLength = (first second len : ℕ) (rs : List (Rule first second)) (m : BTreeMap ℕ ℕ)
    → IsFromIterResult nat_cmp (pairs_of len rs) m → (bits : ℕ)
    → tree.get nat_cmp m bits ≡ get (rules_of rs) (record { bits = bits; len = len })

-- maps for the lengths from 0 to 32, each collected from the pairs of its length, have the rules
abbrev pub CollectedAreTheRules : Type 0
CollectedAreTheRules = (first second : ℕ) (rs : List (Rule first second))
    → (ms : List (BTreeMap ℕ ℕ))
    → first + second ≤ 32 → AllNetworks (first + second) (rules_of rs) → length ms ≡ 33
    → ((len : ℕ) (d : BTreeMap ℕ ℕ) → len < 33
    → IsFromIterResult nat_cmp (pairs_of len rs) (slice_index_or ms len d))
    → rules_of_lengths ms ≡ rules_of rs
