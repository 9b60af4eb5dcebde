-- How many blocks have a rule longer than FIRST bits, after more rules.
use Rattle.std.proofs.Common.{arith, ◌≡◌, ◌≢◌, ℕ, zero, suc, ◌+◌, ◌<◌, ◌≤◌, inl, inr, true, cond, refl, ap, sym, ◌∙◌, subst, List, [], ◌∷◌, take, drop}
use Rattle.std.specs.Ordering.{nat_cmp}
use Rattle.std.specs.Cmp.{nat_cmp_total}
use Rattle.std.specs.FinMap.{insert, empty}
use Rattle.std.specs.FinSet as set
use Rattle.std.specs.FinSet.{FinSet}
use Rattle.std.proofs.lemmas.Bool.{cases_lt, cases_eq, cases_Bool, false_from_ne_true}
use Rattle.lpm_bits.specs.Network.{Network}
use Rattle.lpm_rules.specs.RuleMap.{RuleMap, with_rules, rules_of}
use Rattle.lpm_rules.specs.Deep.{block_of, IsDeepBlock, deep_blocks}
use Rattle.lpm_rules.specs.declared.Rule.{Rule}
use Rattle.lpm_rules.proofs.Deep.{has_deep_blocks, one_more_deep, deep_blocks_insert, deep_blocks_insert_short}

-- a set with a number more
size_insert : (s : FinSet nat_cmp) (k : ℕ) → (set.contains s k ≡ true → ⊥) → set.len (set.insert s k) ≡ set.len s + 1
size_insert s k absent = set.len-insert nat_cmp_total s k ∙ ap (λ t. cond t (set.len s) (set.len s + 1)) (false_from_ne_true (set.contains s k) absent)

-- or with one that it may have
size_kept : (s : FinSet nat_cmp) (k : ℕ) → set.len s ≤ set.len (set.insert s k)
size_kept s k =
    let size = set.len-insert nat_cmp_total s k in
    elim (cases_Bool (set.contains s k)) [
      | inl has ↦ let e = size ∙ ap (λ t. cond t (set.len s) (set.len s + 1)) has in omega (arith, e)
      | inr lacks ↦ let e = size ∙ ap (λ t. cond t (set.len s) (set.len s + 1)) lacks in omega (arith, e)
    ]

abbrev count : ℕ → ℕ → RuleMap → ℕ
count f s R = set.len (deep_blocks f s R)

-- one block more has such a rule
pub one_block_more : (f s b : ℕ) (R Q : RuleMap) → (IsDeepBlock f s R b → ⊥) → IsDeepBlock f s Q b → ((i : ℕ) → IsDeepBlock f s R i → IsDeepBlock f s Q i) → ((i : ℕ) → i ≢ b → IsDeepBlock f s Q i → IsDeepBlock f s R i)
    → set.len (deep_blocks f s Q) ≡ set.len (deep_blocks f s R) + 1
one_block_more f s b R Q absent here kept no_other =
    ap set.len (one_more_deep f s R Q b here kept (λ i d. elim (cases_eq i b) [
      | inl this ↦ inr (sym this)
      | inr other ↦ inl (no_other i other d)
    ])) ∙ size_insert (deep_blocks f s R) b (λ e. absent ((has_deep_blocks f s R b).0 e))

-- a rule more never lowers the number
insert_more : (f s : ℕ) (R : RuleMap) (p : Network) (h : ℕ) → count f s R ≤ count f s (insert R p h)
insert_more f s R p h = elim (cases_lt f p.len) [
  | inl deep ↦ subst (λ t. count f s R ≤ set.len t) (sym (deep_blocks_insert f s R p h deep)) (size_kept (deep_blocks f s R) (block_of s p))
  | inr short ↦ subst (λ t. count f s R ≤ set.len t) (sym (deep_blocks_insert_short f s R p h short)) (omega arith)
]

insert_new : (f s : ℕ) (R : RuleMap) (p : Network) (h : ℕ) → f < p.len → (IsDeepBlock f s R (block_of s p) → ⊥) → count f s (insert R p h) ≡ count f s R + 1
insert_new f s R p h deep absent =
    ap set.len (deep_blocks_insert f s R p h deep) ∙ size_insert (deep_blocks f s R) (block_of s p) (λ e. absent ((has_deep_blocks f s R (block_of s p)).0 e))

list_more : {f s : ℕ} (R : RuleMap) (rs : List (Rule f s)) → count f s R ≤ count f s (with_rules R rs)
list_more R [] = omega arith
list_more {f} {s} R (r ∷ rs) =
    let one = insert_more f s R r.prefix r.hop in
    let rest = list_more (insert R r.prefix r.hop) rs in
    omega (arith, one, rest)

-- the rules of a list are those of its front, and then the others
split_rules : {f s : ℕ} (R : RuleMap) (k : ℕ) (rs : List (Rule f s)) → with_rules R rs ≡ with_rules (with_rules R (take k rs)) (drop k rs)
split_rules R zero rs = refl
split_rules R (suc k) [] = refl
split_rules R (suc k) (r ∷ rs) = split_rules (insert R r.prefix r.hop) k rs

-- where a rule of the list lies in a block that none before it is in, the list has one such block more
pub more_blocks : {f s : ℕ} (rs : List (Rule f s)) (k : ℕ) (r : Rule f s) → rules_of (take (k + 1) rs) ≡ insert (rules_of (take k rs)) r.prefix r.hop → f < r.prefix.len → (IsDeepBlock f s (rules_of (take k rs)) (block_of s r.prefix) → ⊥)
    → set.len (deep_blocks f s (rules_of (take k rs))) + 1 ≤ set.len (deep_blocks f s (rules_of rs))
more_blocks {f} {s} rs k r more deep absent =
    let one : count f s (rules_of (take (k + 1) rs)) ≡ count f s (rules_of (take k rs)) + 1 = ap (count f s) more ∙ insert_new f s (rules_of (take k rs)) r.prefix r.hop deep absent in
    let whole : count f s (rules_of rs) ≡ count f s (with_rules (rules_of (take (k + 1) rs)) (drop (k + 1) rs)) = ap (count f s) (split_rules empty (k + 1) rs) in
    let rest = list_more (rules_of (take (k + 1) rs)) (drop (k + 1) rs) in
    omega (arith, one, whole, rest)
