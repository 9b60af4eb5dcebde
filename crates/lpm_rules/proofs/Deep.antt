-- The rules longer than the first table's index, counted length by length, and their blocks.
use Rattle.std.proofs.Common.{arith, ◌≡◌, ℕ, ◌+◌, ◌-◌, ◌*◌, ◌/◌, ◌%◌, ◌^◌, ◌<◌, ◌≤◌, ◌↔◌, ◌⊎◌, inl, inr, Bool, true, false, cond, refl, ap, sym, ◌∙◌, subst, List, [], ◌∷◌, ◌++◌, Option, Some, None, nat_eq, nat_lt}
use Rattle.std.specs.Prelude.{map, filter, count_by, ◌&&◌, ◌||◌, IsSome, IsTrue, not}
use Rattle.std.specs.List.{list_any}
use Rattle.std.specs.Ordering.{nat_cmp, eq_by_cmp, ord_max, is_gt}
use Rattle.std.specs.Option.{option_cmp, option_eq}
use Rattle.std.specs.Cmp.{nat_cmp_total, unsigned_tied, nat_eq_equiv}
use Rattle.std.specs.FinSet.{FinSet, nat_cmp-IsAntisymmetric}
use Rattle.std.proofs.lemmas.Bool.{cases_order, cases_eq, cases_lt, lt-ltb, le-ltb, ltb-true, eq-eqb, ne_eqb, eqb-true, and_parts, and_from, or_cases, or_left, or_right, false_from_ne_true, cases_Bool, not-true, not_from_false}
use Rattle.std.proofs.lemmas.Map.Lookups.{exact_unsigned}
use Rattle.std.proofs.lemmas.Nat.{pow_pos, pow-add, shr_below}
use Rattle.std.proofs.Math.Nat.{div-lt_iff_lt-mul, mul-le-mul_right, zero-add, add-zero}
use Rattle.std.proofs.Math.Bool.{and-true, and-false}
use Rattle.std.proofs.Math.Pow.{pow_mono, shr_mono}
use Rattle.std.proofs.lemmas.Map.Keys.{le_from_not_gt, ge_from_not_lt}
use Rattle.std.specs.BTreeMap.{BTreeMap}
use Rattle.std.specs.BTreeMap.Range.{IsRangeOf}
use Rattle.std.specs.declared.ops.Bound.TheVariants.{Included, Unbounded}
use Rattle.lpm_rules.proofs.Counts.{lt_cases, gt_cases, same, same_is, one_if, count_sum, count_none, count_same, count_any, key_of_rule, itself}
use Rattle.lpm_rules.proofs.Views.{not_some, insert_cases, insert_here, remove_cases, at_network}
use Rattle.lpm_bits.specs.Network.{Network}
use Rattle.lpm_rules.specs.RuleMap.{RuleMap, AllNetworks, network_cmp}
use Rattle.lpm_rules.specs.Deep.{block_of, IsBlockOf, IsDeepBlock, IsLastBefore, deep_count, deep_blocks, HasDeepBlocks, PutBringsBlock, RemoveDropsBlock}
use Rattle.std.specs.FinMap as rules
use Rattle.std.specs.FinSet as set
use Rattle.std.specs.BTreeMap as tree

-- ---- the count of one block

abbrev pub is_deep_in : ℕ → ℕ → ℕ → Network → Bool
is_deep_in first second block p = nat_lt first p.len && nat_eq (block_of second p) block

-- the rules longer than first and shorter than len
abbrev pub is_deep_below : ℕ → ℕ → ℕ → ℕ → Network → Bool
is_deep_below first second block len p = is_deep_in first second block p && nat_lt p.len len

none_yet : (first second block : ℕ) (p : Network) → is_deep_below first second block (first + 1) p ≡ false
none_yet first second block p = elim (cases_lt first p.len) [
  | inl deep ↦ ap (λ t. is_deep_in first second block p && t) (le-ltb p.len (first + 1) (omega arith)) ∙ and-false _
  | inr short ↦ ap (λ t. (t && nat_eq (block_of second p) block) && nat_lt p.len (first + 1)) (le-ltb first p.len short)
]

-- the rules of one more length
one_more : (first second block len : ℕ) (p : Network) → first < len
    → one_if (is_deep_below first second block (len + 1) p) ≡ one_if (is_deep_below first second block len p) + one_if (nat_eq p.len len && nat_eq (block_of second p) block)
one_more first second block len p h =
    let deep = is_deep_in first second block p in
    let here = nat_eq (block_of second p) block in
    elim (cases_order p.len len) [
      | inl e ↦
          let a = lt-ltb p.len (len + 1) (omega (arith, e)) in
          let b = le-ltb p.len len (omega (arith, e)) in
          let d = lt-ltb first p.len (omega (arith, e, h)) in
          let k = eq-eqb p.len len e in
          ap (λ t. one_if (deep && t)) a ∙ ap one_if (and-true deep) ∙ ap (λ t. one_if (t && here)) d
          ∙ sym (ap (λ t. one_if (deep && t) + one_if (nat_eq p.len len && here)) b ∙ ap (λ t. one_if t + one_if (nat_eq p.len len && here)) (and-false deep)
          ∙ ap (λ t. 0 + one_if (t && here)) k ∙ zero-add (one_if here))
      | inr n ↦ elim n [
        | inl below ↦
            let a = lt-ltb p.len (len + 1) (omega arith) in
            let b = lt-ltb p.len len below in
            let k = ne_eqb p.len len (λ e. absurd (omega (arith, e, below))) in
            ap (λ t. one_if (deep && t)) a
            ∙ sym (ap (λ t. one_if (deep && t) + one_if (nat_eq p.len len && here)) b ∙ ap (λ t. one_if (deep && true) + one_if (t && here)) k ∙ add-zero (one_if (deep && true)))
        | inr above ↦
            let a = le-ltb p.len (len + 1) (omega arith) in
            let b = le-ltb p.len len (omega arith) in
            let k = ne_eqb p.len len (λ e. absurd (omega (arith, e, above))) in
            ap (λ t. one_if (deep && t)) a
            ∙ sym (ap (λ t. one_if (deep && t) + one_if (nat_eq p.len len && here)) b ∙ ap (λ t. one_if (deep && false) + one_if (t && here)) k ∙ add-zero (one_if (deep && false)))
      ]
    ]

pub deep_init : (first second block : ℕ) (ks : List Network) → count_by (is_deep_below first second block (first + 1)) ks ≡ 0
deep_init first second block ks = count_none (is_deep_below first second block (first + 1)) (none_yet first second block) ks

pub deep_more : (first second block len : ℕ) (ks : List Network) → first < len
    → count_by (is_deep_below first second block (len + 1)) ks ≡ count_by (is_deep_below first second block len) ks + count_by (λ p. nat_eq p.len len && nat_eq (block_of second p) block) ks
deep_more first second block len ks h =
    count_sum (is_deep_below first second block (len + 1)) (is_deep_below first second block len) (λ p. nat_eq p.len len && nat_eq (block_of second p) block) (λ p. one_more first second block len p h) ks

-- all lengths are counted
pub deep_all : (first second block len : ℕ) (R : RuleMap) → AllNetworks (first + second) R → first + second < len
    → count_by (is_deep_below first second block len) (rules.keys R) ≡ deep_count first second R block
deep_all first second block len R nets h =
    count_same (is_deep_below first second block len) (is_deep_in first second block) (rules.keys R) (λ p k.
    let bound = (nets p (sym (key_of_rule R p) ∙ k)).0 in
    ap (λ t. is_deep_in first second block p && t) (lt-ltb p.len len (omega (arith, bound, h))) ∙ and-true _)

-- ---- the set of blocks

any_block : (first second block : ℕ) (ks : List Network)
    → list_any (eq_by_cmp nat_cmp block) (map (block_of second) (filter (λ p. nat_lt first p.len) ks)) ≡ list_any (is_deep_in first second block) ks
any_block first second block [] = refl
any_block first second block (p ∷ ks) =
    let rest = any_block first second block ks in
    let tied = unsigned_tied block (block_of second p) ∙ nat_eq_equiv.symm block (block_of second p) in
    let blocks = map (block_of second) (filter (λ q. nat_lt first q.len) ks) in
    elim (nat_lt first p.len) as (λ b. list_any (eq_by_cmp nat_cmp block) (map (block_of second) (cond b (p ∷ filter (λ q. nat_lt first q.len) ks) (filter (λ q. nat_lt first q.len) ks)))
    ≡ ((b && nat_eq (block_of second p) block) || list_any (is_deep_in first second block) ks)) [
      | true ↦ ap (λ t. t || list_any (eq_by_cmp nat_cmp block) blocks) tied ∙ ap (λ t. nat_eq (block_of second p) block || t) rest
      | false ↦ rest
    ]

any_key : (t : Network → Bool) (ks : List Network) → list_any t ks ≡ true → (p : Network) × (list_any (same p) ks ≡ true) × (t p ≡ true)
any_key t [] h = cc
any_key t (p ∷ ks) h = elim (or_cases (t p) (list_any t ks) h) [
  | inl here ↦ (p, or_left (same p p) (list_any (same p) ks) (itself p), here)
  | inr later ↦ let rest = any_key t ks later in (rest.0, or_right (same rest.0 p) (list_any (same rest.0) ks) rest.1, rest.2)
]

key_any : (t : Network → Bool) (ks : List Network) (p : Network) → list_any (same p) ks ≡ true → t p ≡ true → list_any t ks ≡ true
key_any t [] p h e = cc
key_any t (q ∷ ks) p h e = elim (or_cases (same p q) (list_any (same p) ks) h) [
  | inl here ↦ or_left (t q) (list_any t ks) (ap t (sym (same_is p q here)) ∙ e)
  | inr later ↦ or_right (t q) (list_any t ks) (key_any t ks p later e)
]

-- a rule of the block is among the keys exactly where the block is deep
any_deep : (first second : ℕ) (R : RuleMap) (block : ℕ) → (list_any (is_deep_in first second block) (rules.keys R) ≡ true) ↔ IsDeepBlock first second R block
any_deep first second R block = (
  (λ h.
      let found = any_key (is_deep_in first second block) (rules.keys R) h in
      let parts = and_parts _ _ found.2 in
      (found.0, sym (key_of_rule R found.0) ∙ found.1, ltb-true _ _ parts.0, eqb-true _ _ parts.1)),
  (λ d. key_any (is_deep_in first second block) (rules.keys R) d.0 (key_of_rule R d.0 ∙ d.1) (and_from _ _ (lt-ltb _ _ d.2) (eq-eqb _ _ d.3))),
)

pub has_deep_blocks : HasDeepBlocks
has_deep_blocks first second R block =
    let is : set.contains (deep_blocks first second R) block ≡ list_any (is_deep_in first second block) (rules.keys R) =
    set.contains-from_list nat_cmp_total _ block ∙ any_block first second block (rules.keys R) in
    ((λ h. (any_deep first second R block).0 (sym is ∙ h)), (λ d. is ∙ (any_deep first second R block).1 d))

-- the count isn't 0 exactly where a rule is counted
pub deep_some : (first second : ℕ) (R : RuleMap) (block : ℕ) → (0 < deep_count first second R block) ↔ IsDeepBlock first second R block
deep_some first second R block =
    let any = count_any (is_deep_in first second block) (rules.keys R) in
    ((λ h. (any_deep first second R block).0 (any.0 h)), (λ d. any.1 ((any_deep first second R block).1 d)))

pub deep_none : (first second : ℕ) (R : RuleMap) (block n : ℕ) → n ≡ deep_count first second R block → (n ≡ 0) ↔ (¬ (IsDeepBlock first second R block))
deep_none first second R block n is = (
  (λ z d. let some = (deep_some first second R block).1 d in absurd (omega (arith, z, is, some))),
  (λ no. elim (cases_lt 0 n) [
    | inl some ↦ absurd (no ((deep_some first second R block).0 (omega (arith, is, some))))
    | inr none ↦ omega (arith, none)
  ]),
)

-- ---- the blocks before an end

abbrev pub before : FinSet nat_cmp → ℕ → FinSet nat_cmp
before s end = set.retain s (λ i. nat_lt i end)

in_before : (s : FinSet nat_cmp) (end i : ℕ) → set.contains (before s end) i ≡ (set.contains s i && nat_lt i end)
in_before s end i = set.contains-retain s (λ k. nat_lt k end) i (λ x e. ap (λ k. nat_lt k end) (sym (exact_unsigned i x e)))

-- `last` is the greatest that stands before the end, so one fewer stands before it
module _ (s : FinSet nat_cmp) (last end : ℕ) (has : set.contains s last ≡ true) (l : last < end) (greatest : (i : ℕ) → set.contains s i ≡ true → i < end → i ≤ last) where
  one_fewer : (i : ℕ) → (set.contains s i && nat_lt i end) ≡ (nat_eq i last || (set.contains s i && nat_lt i last))
  one_fewer i = elim (cases_order i last) [
    | inl e ↦
        ap (λ t. t && nat_lt i end) (ap (set.contains s) e ∙ has) ∙ lt-ltb i end (omega (arith, e, l))
        ∙ sym (ap (λ t. t || (set.contains s i && nat_lt i last)) (eq-eqb i last e))
    | inr n ↦ elim n [
      | inl below ↦
          ap (λ t. set.contains s i && t) (lt-ltb i end (omega (arith, below, l)))
          ∙ sym (ap (λ t. t || (set.contains s i && nat_lt i last)) (ne_eqb i last (λ e. absurd (omega (arith, e, below)))) ∙ ap (λ t. set.contains s i && t) (lt-ltb i last below))
      | inr above ↦
          false_from_ne_true (set.contains s i && nat_lt i end) (λ both.
          let parts = and_parts _ _ both in
          let most = greatest i parts.0 (ltb-true _ _ parts.1) in
          absurd (omega (arith, most, above)))
          ∙ sym (ap (λ t. t || (set.contains s i && nat_lt i last)) (ne_eqb i last (λ e. absurd (omega (arith, e, above)))) ∙ ap (λ t. set.contains s i && t) (le-ltb i last (omega arith)) ∙ and-false _)
    ]
  ]

  pub before_more : set.len (before s end) ≡ set.len (before s last) + 1
  before_more =
      ap set.len (set.same_set nat_cmp_total nat_cmp-IsAntisymmetric (before s end) (set.insert (before s last) last) (λ i.
      in_before s end i ∙ one_fewer i
      ∙ sym (set.contains-insert nat_cmp_total (before s last) last i ∙ ap (λ t. t || set.contains (before s last) i) (unsigned_tied i last) ∙ ap (λ t. nat_eq i last || t) (in_before s last i))))
      ∙ set.len-insert nat_cmp_total (before s last) last
      ∙ ap (λ t. cond t (set.len (before s last)) (set.len (before s last) + 1)) (in_before s last last ∙ ap (λ t. set.contains s last && t) (le-ltb last last (omega arith)) ∙ and-false _)

-- none stands before the end
pub before_none : (s : FinSet nat_cmp) (end : ℕ) → ((i : ℕ) → set.contains s i ≡ true → i < end → ⊥) → set.len (before s end) ≡ 0
before_none s end none =
    ap set.len (set.same_set nat_cmp_total nat_cmp-IsAntisymmetric (before s end) set.empty (λ i.
    in_before s end i ∙ false_from_ne_true (set.contains s i && nat_lt i end) (λ both. let parts = and_parts _ _ both in none i parts.0 (ltb-true _ _ parts.1))
    ∙ sym (set.contains-empty nat_cmp i)))
    ∙ set.len-empty nat_cmp

-- all stand before the end
pub before_all : (s : FinSet nat_cmp) (end : ℕ) → ((i : ℕ) → set.contains s i ≡ true → i < end) → set.len (before s end) ≡ set.len s
before_all s end all =
    ap set.len (set.same_set nat_cmp_total nat_cmp-IsAntisymmetric (before s end) s (λ i.
    in_before s end i ∙ elim (cases_Bool (set.contains s i)) [
      | inl has ↦ ap (λ t. t && nat_lt i end) has ∙ lt-ltb i end (all i has) ∙ sym has
      | inr absent ↦ ap (λ t. t && nat_lt i end) absent ∙ sym absent
    ]))

-- each deep block is a block of the first table
pub deep_below : (first second : ℕ) (R : RuleMap) (block : ℕ) → AllNetworks (first + second) R → IsDeepBlock first second R block → block < 2 ^ first
deep_below first second R block nets d =
    let low = shr_below d.0.bits first second (nets d.0 d.1).1 in
    let is = d.3 in
    omega (arith, low, is)

-- ---- the last block before an end

-- a rule longer than first and shorter than len lies in the block
abbrev pub IsDeepBlockBelow : ℕ → ℕ → RuleMap → ℕ → ℕ → Type 0
IsDeepBlockBelow first second R len block = (p : Network) × IsSome (rules.get R p) × (first < p.len) × (p.len < len) × (block_of second p ≡ block)

pub none_below : (first second block : ℕ) (R : RuleMap) → ¬ IsDeepBlockBelow first second R (first + 1) block
none_below first second block R d = let a = d.2 in let b = d.3 in absurd (omega (arith, a, b))

-- the later of the two is the last of those that either has
last_by : (P Q S : ℕ → Type 0) (end : ℕ) → ((k : ℕ) → S k → P k ⊎ Q k) → ((k : ℕ) → P k → S k) → ((k : ℕ) → Q k → S k)
    → (x y : Option ℕ) → IsLastBefore P end x → IsLastBefore Q end y → IsLastBefore S end (ord_max (option_cmp nat_cmp) x y)
last_by P Q S end split left right None None lx ly = λ k s l. elim (split k s) [ inl p ↦ lx k p l | inr q ↦ ly k q l ]
last_by P Q S end split left right None (Some y) lx ly =
    (right y ly.0, ly.1, λ k s l. elim (split k s) [ inl p ↦ absurd (lx k p l) | inr q ↦ ly.2 k q l ])
last_by P Q S end split left right (Some x) None lx ly =
    (left x lx.0, lx.1, λ k s l. elim (split k s) [ inl p ↦ lx.2 k p l | inr q ↦ absurd (ly k q l) ])
last_by P Q S end split left right (Some x) (Some y) lx ly = elim (lt_cases y x (nat_cmp y x) refl) [
  | inl less ↦ subst (λ b. IsLastBefore S end (cond b (Some x) (Some y))) (sym less.0)
      (left x lx.0, lx.1, λ k s l. elim (split k s) [ inl p ↦ lx.2 k p l | inr q ↦ let z = ly.2 k q l in let w = less.1 in omega (arith, z, w) ])
  | inr more ↦ subst (λ b. IsLastBefore S end (cond b (Some x) (Some y))) (sym more.0)
      (right y ly.0, ly.1, λ k s l. elim (split k s) [ inl p ↦ let z = lx.2 k p l in let w = more.1 in omega (arith, z, w) | inr q ↦ ly.2 k q l ])
]

pub last_init : (first second end : ℕ) (R : RuleMap) → IsLastBefore (IsDeepBlockBelow first second R (first + 1)) end None
last_init first second end R k d l = none_below first second k R d

pub last_more : (first second end len : ℕ) (R : RuleMap) → first < len → (x y later : Option ℕ) → later ≡ ord_max (option_cmp nat_cmp) x y
    → IsLastBefore (IsDeepBlockBelow first second R len) end x → IsLastBefore (IsBlockOf second R len) end y
    → IsLastBefore (IsDeepBlockBelow first second R (len + 1)) end later
last_more first second end len R h x y later is lx ly =
    subst (IsLastBefore (IsDeepBlockBelow first second R (len + 1)) end) (sym is)
    (last_by (IsDeepBlockBelow first second R len) (IsBlockOf second R len) (IsDeepBlockBelow first second R (len + 1)) end
    (λ k d. elim (cases_eq d.0.len len) [
      | inl e ↦ inr (d.0, d.1, e, d.4)
      | inr n ↦ let a = d.3 in inl (d.0, d.1, d.2, omega (arith, a, n), d.4)
    ])
    (λ k d. let a = d.3 in (d.0, d.1, d.2, omega (arith, a), d.4))
    (λ k d. let a = d.2 in (d.0, d.1, omega (arith, a, h), omega (arith, a), d.3))
    x y lx ly)

-- the same numbers have the same last one
last_same : (P Q : ℕ → Type 0) (end : ℕ) → ((k : ℕ) → P k → Q k) → ((k : ℕ) → Q k → P k) → (x : Option ℕ) → IsLastBefore P end x → IsLastBefore Q end x
last_same P Q end to from None l = λ k q. l k (from k q)
last_same P Q end to from (Some x) l = (to x l.0, l.1, λ k q. l.2 k (from k q))

pub last_all : (first second end len : ℕ) (R : RuleMap) → AllNetworks (first + second) R → first + second < len → (x : Option ℕ)
    → IsLastBefore (IsDeepBlockBelow first second R len) end x → IsLastBefore (IsDeepBlock first second R) end x
last_all first second end len R nets h = last_same (IsDeepBlockBelow first second R len) (IsDeepBlock first second R) end
    (λ k d. (d.0, d.1, d.2, d.4))
    (λ k d. let bound = (nets d.0 d.1).0 in (d.0, d.1, d.2, omega (arith, bound, h), d.3))

-- ---- whether a block is deep, by the last block up to it

-- the last of the numbers up to `block` of which P holds is `block` exactly where P holds of it
pub last_is_end : (P : ℕ → Type 0) (block : ℕ) (x : Option ℕ) → IsLastBefore P (block + 1) x → IsTrue (option_eq nat_eq x (Some block)) ↔ P block
last_is_end P block None l = (λ e. cc, λ p. absurd (l block p (omega arith)))
last_is_end P block (Some x) l = (
  (λ e. subst P (eqb-true x block e) l.0),
  (λ p. let low = l.1 in let most = l.2 block p (omega arith) in eq-eqb x block (omega (arith, low, most))),
)

pub none_below_more : (first second block len : ℕ) (R : RuleMap) → ¬ IsDeepBlockBelow first second R len block → ¬ IsBlockOf second R len block
    → ¬ IsDeepBlockBelow first second R (len + 1) block
none_below_more first second block len R before here d = elim (cases_eq d.0.len len) [
  | inl e ↦ here (d.0, d.1, e, d.4)
  | inr n ↦ let a = d.3 in before (d.0, d.1, d.2, omega (arith, a, n), d.4)
]

-- ---- the last block of one length, by the last key of a range

not_gt : (a b : ℕ) → a ≤ b → is_gt (nat_cmp a b) ≡ false
not_gt a b h = elim (gt_cases a b (nat_cmp a b) refl) [ inl more ↦ let z = more.1 in absurd (omega (arith, z, h)) | inr less ↦ less.0 ]

module _ (R : RuleMap) (m : BTreeMap ℕ ℕ) (second end len last : ℕ) (r : List (ℕ × ℕ)) (has : (b : ℕ) → tree.get nat_cmp m b ≡ rules.get R (at_network b len)) (ends : last + 1 ≡ end * 2 ^ second)
    (range : IsRangeOf nat_cmp Unbounded (Included last) m r) where
  -- the bits of a rule of this length in a block before the end are in the range
  in_range : (p : Network) (k : ℕ) → block_of second p ≡ k → k < end → p.bits ≤ last
  in_range p k e l =
      let z = (div-lt_iff_lt-mul {x = p.bits} {y = end} (pow_pos second)).0 (omega (arith, e, l)) in
      omega (arith, z, ends)

  key : (p : Network) → IsSome (rules.get R p) → p.len ≡ len → IsSome (tree.get nat_cmp m p.bits)
  key p some e = subst IsSome (ap (λ l. rules.get R (at_network p.bits l)) e ∙ sym (has p.bits)) some

  pub last_none : r ≡ [] → IsLastBefore (IsBlockOf second R len) end None
  last_none e = λ k d l.
      absurd (not_some (range.5 e d.0.bits (tt, not_gt d.0.bits last (in_range d.0 k d.3 l))) (key d.0 d.1 d.2))

  pub last_some : (t : List (ℕ × ℕ)) (b v : ℕ) → r ≡ t ++ (b, v) ∷ [] → IsLastBefore (IsBlockOf second R len) end (Some (b / 2 ^ second))
  last_some t b v e =
      let here = range.3 (b, v) t e in
      let most = le_from_not_gt b last here.0.1 in (
        (at_network b len, subst IsSome (sym here.1 ∙ has b) refl, refl, refl),
        (div-lt_iff_lt-mul {x = b} {y = end} (pow_pos second)).1 (omega (arith, most, ends)),
        λ k d l.
            let up = ge_from_not_lt b d.0.bits (range.4 (b, v) t e d.0.bits (tt, not_gt d.0.bits last (in_range d.0 k d.3 l)) (key d.0 d.1 d.2)) in
            let z = shr_mono second up in
            let w = d.3 in
            omega (arith, z, w),
      )

-- a block's end lies within the addresses
pub end_fits : (first second end : ℕ) → first + second ≤ 32 → end ≤ 2 ^ first → end * 2 ^ second ≤ 2 ^ 32
end_fits first second end shape h =
    let e = pow-add 2 first second in
    let z = mul-le-mul_right (2 ^ second) h in
    let w = pow_mono shape in
    omega (arith, e, z, w)

pub end_starts : (second end : ℕ) → 0 < end → end * 2 ^ second ≤ 2 ^ 32 → end * 2 ^ second % 18446744073709551616 - 1 + 1 ≡ end * 2 ^ second
end_starts second end some fits =
    let one = mul-le-mul_right (2 ^ second) some in
    let p = pow_pos second in
    omega (arith, one, fits, p)

-- The deep blocks after a rule is put in or taken out.

-- ---- one block

pub deep_insert_cases : (first second : ℕ) (R : RuleMap) (p : Network) (h block : ℕ) → IsDeepBlock first second (rules.insert R p h) block → IsDeepBlock first second R block ⊎ ((first < p.len) × (block_of second p ≡ block))
deep_insert_cases first second R p h block d = elim (insert_cases R p h d.0) [
  | inl same ↦ inr (subst (λ (q : Network). first < q.len) same.0 d.2, ap (block_of second) (sym same.0) ∙ d.3)
  | inr old ↦ inl (d.0, subst IsSome old d.1, d.2, d.3)
]

pub deep_kept : (first second : ℕ) (R : RuleMap) (p : Network) (h block : ℕ) → IsDeepBlock first second R block → IsDeepBlock first second (rules.insert R p h) block
deep_kept first second R p h block d = elim (insert_cases R p h d.0) [
  | inl same ↦ (d.0, subst IsSome (sym same.1) refl, d.2, d.3)
  | inr old ↦ (d.0, subst IsSome (sym old) d.1, d.2, d.3)
]

pub deep_inserted : (first second : ℕ) (R : RuleMap) (p : Network) (h : ℕ) → first < p.len → IsDeepBlock first second (rules.insert R p h) (block_of second p)
deep_inserted first second R p h deep = (p, subst IsSome (sym (insert_here R p h)) refl, deep, refl)

pub deep_remains : (first second : ℕ) (R : RuleMap) (p : Network) (block : ℕ) → IsDeepBlock first second (rules.remove R p) block → IsDeepBlock first second R block
deep_remains first second R p block d = elim (remove_cases R p d.0) [
  | inl same ↦ absurd (not_some same.1 d.1)
  | inr old ↦ (d.0, subst IsSome old d.1, d.2, d.3)
]

pub deep_remove_cases : (first second : ℕ) (R : RuleMap) (p : Network) (block : ℕ) → IsDeepBlock first second R block → IsDeepBlock first second (rules.remove R p) block ⊎ ((first < p.len) × (block_of second p ≡ block))
deep_remove_cases first second R p block d = elim (remove_cases R p d.0) [
  | inl same ↦ inr (subst (λ (q : Network). first < q.len) same.0 d.2, ap (block_of second) (sym same.0) ∙ d.3)
  | inr old ↦ inl (d.0, subst IsSome (sym old) d.1, d.2, d.3)
]

-- ---- the set

same_bool : (a b : Bool) → (a ≡ true → b ≡ true) → (b ≡ true → a ≡ true) → a ≡ b
same_bool true b to from = sym (to refl)
same_bool false b to from = sym (false_from_ne_true b (λ e. let z = from e in cc))

same_blocks : (s t : FinSet nat_cmp) → ((i : ℕ) → set.contains s i ≡ true → set.contains t i ≡ true) → ((i : ℕ) → set.contains t i ≡ true → set.contains s i ≡ true) → s ≡ t
same_blocks s t to from = set.same_set nat_cmp_total nat_cmp-IsAntisymmetric s t (λ i. same_bool _ _ (to i) (from i))

in_insert : (s : FinSet nat_cmp) (k i : ℕ) → set.contains (set.insert s k) i ≡ (nat_eq i k || set.contains s i)
in_insert s k i = set.contains-insert nat_cmp_total s k i ∙ ap (λ t. t || set.contains s i) (unsigned_tied i k)

in_remove : (s : FinSet nat_cmp) (k i : ℕ) → set.contains (set.remove s k) i ≡ (not (nat_eq i k) && set.contains s i)
in_remove s k i = set.contains-remove nat_cmp_total s k i ∙ ap (λ t. not t && set.contains s i) (unsigned_tied i k)

module _ (first second : ℕ) (R Q : RuleMap) where
  -- the same blocks are deep
  same_deep : ((i : ℕ) → IsDeepBlock first second Q i → IsDeepBlock first second R i) → ((i : ℕ) → IsDeepBlock first second R i → IsDeepBlock first second Q i) → deep_blocks first second Q ≡ deep_blocks first second R
  same_deep to from = same_blocks _ _
      (λ i e. (has_deep_blocks first second R i).1 (to i ((has_deep_blocks first second Q i).0 e)))
      (λ i e. (has_deep_blocks first second Q i).1 (from i ((has_deep_blocks first second R i).0 e)))

  -- one block more is deep
  pub one_more_deep : (b : ℕ) → IsDeepBlock first second Q b → ((i : ℕ) → IsDeepBlock first second R i → IsDeepBlock first second Q i) → ((i : ℕ) → IsDeepBlock first second Q i → IsDeepBlock first second R i ⊎ (b ≡ i))
      → deep_blocks first second Q ≡ set.insert (deep_blocks first second R) b
  one_more_deep b here kept cases = same_blocks _ _
      (λ i e. in_insert (deep_blocks first second R) b i ∙ elim (cases i ((has_deep_blocks first second Q i).0 e)) [
        | inl old ↦ or_right (nat_eq i b) _ ((has_deep_blocks first second R i).1 old)
        | inr same ↦ or_left _ (set.contains (deep_blocks first second R) i) (eq-eqb i b (sym same))
      ])
      (λ i e. (has_deep_blocks first second Q i).1 (elim (or_cases (nat_eq i b) (set.contains (deep_blocks first second R) i) (sym (in_insert (deep_blocks first second R) b i) ∙ e)) [
        | inl same ↦ subst (IsDeepBlock first second Q) (sym (eqb-true i b same)) here
        | inr old ↦ kept i ((has_deep_blocks first second R i).0 old)
      ]))

module _ (first second : ℕ) (R : RuleMap) (p : Network) where
  -- a rule longer than first brings its block
  pub deep_blocks_insert : (h : ℕ) → first < p.len → deep_blocks first second (rules.insert R p h) ≡ set.insert (deep_blocks first second R) (block_of second p)
  deep_blocks_insert h deep =
      one_more_deep first second R (rules.insert R p h) (block_of second p) (deep_inserted first second R p h deep) (deep_kept first second R p h) (λ i d. elim (deep_insert_cases first second R p h i d) [
        | inl old ↦ inl old
        | inr here ↦ inr here.1
      ])

  -- a rule of at most first bits brings none
  pub deep_blocks_insert_short : (h : ℕ) → p.len ≤ first → deep_blocks first second (rules.insert R p h) ≡ deep_blocks first second R
  deep_blocks_insert_short h short =
      same_deep first second R (rules.insert R p h) (λ i d. elim (deep_insert_cases first second R p h i d) [
        | inl old ↦ old
        | inr here ↦ let deep = here.0 in absurd (omega (arith, deep, short))
      ]) (deep_kept first second R p h)

  -- where the rule is deep, another one of its block stays
  no_block_gone : (first < p.len → IsDeepBlock first second (rules.remove R p) (block_of second p)) → deep_blocks first second (rules.remove R p) ≡ deep_blocks first second R
  no_block_gone stays =
      same_deep first second R (rules.remove R p) (deep_remains first second R p) (λ i d. elim (deep_remove_cases first second R p i d) [
        | inl old ↦ old
        | inr here ↦ subst (IsDeepBlock first second (rules.remove R p)) here.1 (stays here.0)
      ])

  pub deep_blocks_remove : IsDeepBlock first second (rules.remove R p) (block_of second p) → deep_blocks first second (rules.remove R p) ≡ deep_blocks first second R
  deep_blocks_remove stays = no_block_gone (λ _. stays)

  pub deep_blocks_remove_short : p.len ≤ first → deep_blocks first second (rules.remove R p) ≡ deep_blocks first second R
  deep_blocks_remove_short short = no_block_gone (λ deep. absurd (omega (arith, deep, short)))

  -- it was the last of its block
  pub deep_blocks_remove_last : (¬ (IsDeepBlock first second (rules.remove R p) (block_of second p))) → deep_blocks first second (rules.remove R p) ≡ set.remove (deep_blocks first second R) (block_of second p)
  deep_blocks_remove_last gone = same_blocks _ _
      (λ i e.
      let d = (has_deep_blocks first second (rules.remove R p) i).0 e in
      in_remove (deep_blocks first second R) (block_of second p) i
      ∙ and_from _ _ (not_from_false _ (ne_eqb i (block_of second p) (λ same. gone (subst (IsDeepBlock first second (rules.remove R p)) same d))))
      ((has_deep_blocks first second R i).1 (deep_remains first second R p i d)))
      (λ i e.
      let parts = and_parts _ _ (sym (in_remove (deep_blocks first second R) (block_of second p) i) ∙ e) in
      (has_deep_blocks first second (rules.remove R p) i).1 (elim (deep_remove_cases first second R p i ((has_deep_blocks first second R i).0 parts.1)) [
        | inl old ↦ old
        | inr here ↦ let off = not-true (nat_eq i (block_of second p)) parts.0 in let on = eq-eqb i (block_of second p) (sym here.1) in cc
      ]))

pub deep_blocks_empty : (first second : ℕ) → deep_blocks first second rules.empty ≡ set.empty
deep_blocks_empty first second = same_blocks _ _
    (λ i e. let d = (has_deep_blocks first second rules.empty i).0 e in absurd (not_some (rules.get-empty network_cmp d.0) d.1))
    (λ i e. let z = set.contains-empty nat_cmp i in cc)

pub put_brings_block : PutBringsBlock
put_brings_block first second R p h = (deep_blocks_insert first second R p h, deep_blocks_insert_short first second R p h)

pub remove_drops_block : RemoveDropsBlock
remove_drops_block first second R p = (deep_blocks_remove_last first second R p, deep_blocks_remove first second R p, deep_blocks_remove_short first second R p)
