-- How many of the rules pass a test.
use Rattle.std.proofs.Common.{arith, ◌≡◌, ◌≢◌, ℕ, ◌+◌, ◌-◌, ◌*◌, ◌/◌, ◌^◌, ◌<◌, ◌≤◌, ◌↔◌, ◌⊎◌, inl, inr, true, false, refl, ap, sym, ◌∙◌, nat_eq, zero-add, Bool, cond, length, List, [], ◌∷◌, Option, None}
use Rattle.std.specs.Prelude.{◌&&◌, not, map, filter, count_by, ◌||◌, is_some, T}
use Rattle.std.specs.declared.cmp.Ordering.{Ordering}
use Rattle.std.specs.declared.cmp.Ordering.TheVariants.{Less, Equal, Greater}
use Rattle.std.specs.declared.ops.Bound.TheVariants.{Included}
use Rattle.std.specs.Ordering.{nat_cmp, is_lt, is_le, is_gt, eq_by_cmp, is_eq}
use Rattle.std.specs.Cmp.{ranked, eq_by_cmp_equiv}
use Rattle.std.specs.BTreeMap.Range.{range_contains}
use Rattle.std.proofs.lemmas.Nat.{pow-add}
use Rattle.std.proofs.Math.Nat.{div-mul-le_self, lt-div-mul-add, div-eq_of_lt-le, mul-le-mul_right}
use Rattle.std.proofs.Math.Pow.{pow_mono}
use Rattle.lpm_rules.proofs.Views.{networks_total, exact_networks, at_network, same_len, other_len}
use Rattle.std.specs.List.{list_any, IsDistinct, AllByRecursion}
use Rattle.std.specs.Map.{keys_of, lookup}
use Rattle.std.specs.Set.{is_member}
use Rattle.std.specs.BTreeMap.{BTreeMap, is_at}
use Rattle.std.specs.FinMap.{get, entries, keys, len, entries_sorted, len-entries, contains_key-keys, is_sorted}
use Rattle.std.specs.FinMap.Entries.{below_all}
use Rattle.std.proofs.lemmas.List.{length-map}
use Rattle.std.proofs.lemmas.List.Sums.{sum_by-cons}
use Rattle.std.proofs.lemmas.Map.Keys.{IsDistinct-from_sorted}
use Rattle.std.proofs.lemmas.Map.Lookups.{exact_unsigned}
use Rattle.std.proofs.lemmas.Map.Made.{length-from_same_keys, is_some-lookup, IsDistinct-keys_filter}
use Rattle.std.proofs.lemmas.Map.Entries.{lookup-filter-keys, length-keys_of}
use Rattle.std.proofs.lemmas.Bool.{cases_eq, eq-eqb, ne_eqb}
use Rattle.std.proofs.Math.Bool.{or-true}
use Rattle.lpm_bits.specs.Network.{Network}
use Rattle.lpm_rules.specs.RuleMap.{RuleMap, network_cmp}
use Rattle.std.specs.BTreeMap as tree

-- Which addresses a block has.

le_cases : (a b : ℕ) (r : Ordering) → r ≡ nat_cmp a b → ((is_le r ≡ true) × (a ≤ b)) ⊎ ((is_le r ≡ false) × (b < a))
le_cases a b Less e = let k : a < b = ranked a b Less e in inl (refl, omega arith)
le_cases a b Equal e = let k : a ≡ b = ranked a b Equal e in inl (refl, omega arith)
le_cases a b Greater e = let k : b < a = ranked a b Greater e in inr (refl, k)

pub lt_cases : (a b : ℕ) (r : Ordering) → r ≡ nat_cmp a b → ((is_lt r ≡ true) × (a < b)) ⊎ ((is_lt r ≡ false) × (b ≤ a))
lt_cases a b Less e = let k : a < b = ranked a b Less e in inl (refl, k)
lt_cases a b Equal e = let k : a ≡ b = ranked a b Equal e in inr (refl, omega arith)
lt_cases a b Greater e = let k : b < a = ranked a b Greater e in inr (refl, omega arith)

pub gt_cases : (a b : ℕ) (r : Ordering) → r ≡ nat_cmp a b → ((is_gt r ≡ true) × (b < a)) ⊎ ((is_gt r ≡ false) × (a ≤ b))
gt_cases a b Less e = let k : a < b = ranked a b Less e in inr (refl, omega arith)
gt_cases a b Equal e = let k : a ≡ b = ranked a b Equal e in inr (refl, omega arith)
gt_cases a b Greater e = let k : b < a = ranked a b Greater e in inl (refl, k)

-- the numbers from block * d up to its end have that quotient, and no others
below_block : (d block b : ℕ) → b < block * d → b / d ≢ block
below_block d block b h e = let z = ap (λ x. x * d) e in let q = div-mul-le_self b d in absurd (omega (arith, h, z, q))

past_block : (d block b : ℕ) → 0 < d → block * d + (d - 1) < b → b / d ≢ block
past_block d block b p h e = let z = ap (λ x. x * d) e in let q = lt-div-mul-add {a = b} p in absurd (omega (arith, h, z, q))

within_block : (d block b : ℕ) → 0 < d → block * d ≤ b → b ≤ block * d + (d - 1) → b / d ≡ block
within_block d block b p low high = div-eq_of_lt-le d low (omega (arith, high, p))

pub range_of_block : (d block b : ℕ) → 0 < d → range_contains nat_cmp (Included (block * d)) (Included (block * d + (d - 1))) b ≡ nat_eq (b / d) block
range_of_block d block b p =
    elim (le_cases (block * d) b (nat_cmp (block * d) b) refl) [
      | inr low ↦
          ap (λ t. t && not (is_lt (nat_cmp (block * d + (d - 1)) b))) low.0
          ∙ sym (ne_eqb (b / d) block (below_block d block b low.1))
      | inl low ↦
          ap (λ t. t && not (is_lt (nat_cmp (block * d + (d - 1)) b))) low.0
          ∙ elim (lt_cases (block * d + (d - 1)) b (nat_cmp (block * d + (d - 1)) b) refl) [
            | inl high ↦ ap not high.0 ∙ sym (ne_eqb (b / d) block (past_block d block b p high.1))
            | inr high ↦ ap not high.0 ∙ sym (ap (λ x. nat_eq x block) (within_block d block b p low.1 high.1) ∙ eq-eqb block block refl)
          ]
    ]

-- a block ends within the addresses
pub block_end : (first second block : ℕ) → first + second ≤ 32 → block < 2 ^ first → block * 2 ^ second + 2 ^ second ≤ 2 ^ 32
block_end first second block shape h =
    let next : block + 1 ≤ 2 ^ first = omega arith in
    let e = pow-add 2 first second in
    let z = mul-le-mul_right (2 ^ second) next in
    let w = pow_mono shape in
    omega (arith, e, z, w)

abbrev pub same : Network → Network → Bool
same = eq_by_cmp network_cmp

equal : (o : Ordering) → is_eq o ≡ true → o ≡ Equal
equal Less h = cc
equal Equal h = refl
equal Greater h = cc

number_is : (b c : ℕ) → is_at (nat_cmp b) c ≡ true → b ≡ c
number_is b c h = exact_unsigned b c (equal (nat_cmp b c) h)

pub same_is : (p q : Network) → same p q ≡ true → p ≡ q
same_is p q h = exact_networks p q (equal (network_cmp p q) h)

-- ---- counts by tests

pub itself : (p : Network) → same p p ≡ true
itself p = (eq_by_cmp_equiv networks_total).refl p

abbrev pub one_if : Bool → ℕ
one_if b = cond b 1 0

count_cons : (t : Network → Bool) (p : Network) (ks : List Network) → count_by t (p ∷ ks) ≡ one_if (t p) + count_by t ks
count_cons t p ks = sum_by-cons (λ q. one_if (t q)) p ks

pub count_sum : (t u v : Network → Bool) → ((p : Network) → one_if (t p) ≡ one_if (u p) + one_if (v p)) → (ks : List Network) → count_by t ks ≡ count_by u ks + count_by v ks
count_sum t u v h [] = refl
count_sum t u v h (p ∷ ks) =
    let e = h p in
    let rest = count_sum t u v h ks in
    let ct = count_cons t p ks in
    let cu = count_cons u p ks in
    let cv = count_cons v p ks in
    omega (arith, e, rest, ct, cu, cv)

pub count_none : (t : Network → Bool) → ((p : Network) → t p ≡ false) → (ks : List Network) → count_by t ks ≡ 0
count_none t h [] = refl
count_none t h (p ∷ ks) = count_cons t p ks ∙ ap (λ b. one_if b + count_by t ks) (h p) ∙ zero-add (count_by t ks) ∙ count_none t h ks

-- tests that agree on the keys
pub count_same : (t u : Network → Bool) (ks : List Network) → ((p : Network) → list_any (same p) ks ≡ true → t p ≡ u p) → count_by t ks ≡ count_by u ks
count_same t u [] h = refl
count_same t u (p ∷ ks) h =
    count_cons t p ks
    ∙ ap (λ b. one_if b + count_by t ks) (h p (ap (λ b. b || list_any (same p) ks) (itself p)))
    ∙ ap (λ n. one_if (u p) + n) (count_same t u ks (λ q one. h q (ap (λ b. same q p || b) one ∙ or-true (same q p))))
    ∙ sym (count_cons u p ks)

-- the count isn't 0 exactly where one passes
pub count_any : (t : Network → Bool) (ks : List Network) → (0 < count_by t ks) ↔ (list_any t ks ≡ true)
count_any t [] = ((λ h. absurd (omega (arith, h))), (λ e. cc))
count_any t (p ∷ ks) =
    let cons = count_cons t p ks in
    let rest = count_any t ks in
    elim (t p) as (λ b. t p ≡ b → (0 < count_by t (p ∷ ks)) ↔ ((b || list_any t ks) ≡ true)) [
      | true ↦ λ e. ((λ _. refl), (λ _. let one = ap one_if e in omega (arith, cons, one)))
      | false ↦ λ e. let none = ap one_if e in ((λ h. rest.0 (omega (arith, cons, none, h))), (λ any. let some = rest.1 any in omega (arith, cons, none, some)))
    ] refl

-- ---- the keys of the rules

pub key_of_rule : (R : RuleMap) (p : Network) → list_any (same p) (keys R) ≡ is_some (get R p)
key_of_rule R p = sym (contains_key-keys R p)

pub size_of_keys : (R : RuleMap) → length (keys R) ≡ len R
size_of_keys R = length-map (entries R) (λ e. e.0) ∙ sym (len-entries R)

-- ---- the rules of one length, and the map that has them

both_T : (a b : Bool) → T (a && b) → T a × T b
both_T true b h = (tt, h)
both_T false b h = absurd h

less_apart : (o : Ordering) → T (is_lt o) → is_eq o ≡ false
less_apart Less h = refl
less_apart Equal h = absurd h
less_apart Greater h = refl

below_apart : (x : Network) (es : List (Network × ℕ)) → T (below_all network_cmp x es) → AllByRecursion (λ y. same x y ≡ false) (keys_of es)
below_apart x [] h = tt
below_apart x (e ∷ es) h = let k = both_T _ _ h in (less_apart (network_cmp x e.0) k.0, below_apart x es k.1)

sorted_distinct : (es : List (Network × ℕ)) → T (is_sorted network_cmp es) → IsDistinct same (keys_of es)
unfolding IsDistinct
sorted_distinct [] h = tt
sorted_distinct (e ∷ es) h = let k = both_T _ _ h in (below_apart e.0 es k.0, sorted_distinct es k.1)

-- a length makes of each key a prefix
abbrev prefixes : ℕ → List (ℕ × ℕ) → List Network
prefixes len es = map {B = Network} (λ (e : ℕ × ℕ). at_network e.0 len) es

apart_prefixes : (b len : ℕ) (es : List (ℕ × ℕ)) → AllByRecursion (λ c. eq_by_cmp nat_cmp b c ≡ false) (keys_of es) → AllByRecursion (λ y. same (at_network b len) y ≡ false) (prefixes len es)
apart_prefixes b len [] h = tt
apart_prefixes b len (e ∷ es) h = (same_len b e.0 len ∙ h.0, apart_prefixes b len es h.1)

distinct_prefixes : (len : ℕ) (es : List (ℕ × ℕ)) → IsDistinct (eq_by_cmp nat_cmp) (keys_of es) → IsDistinct same (prefixes len es)
unfolding IsDistinct
distinct_prefixes len [] h = tt
distinct_prefixes len (e ∷ es) h = (apart_prefixes e.0 len es h.0, distinct_prefixes len es h.1)

any_prefixes : (b len : ℕ) (es : List (ℕ × ℕ)) → list_any (same (at_network b len)) (prefixes len es) ≡ list_any (is_at (nat_cmp b)) (keys_of es)
any_prefixes b len [] = refl
any_prefixes b len (e ∷ es) =
    ap (λ t. t || list_any (same (at_network b len)) (prefixes len es)) (same_len b e.0 len)
    ∙ ap (λ t. is_at (nat_cmp b) e.0 || t) (any_prefixes b len es)

no_prefixes : (p : Network) (len : ℕ) (es : List (ℕ × ℕ)) → p.len ≢ len → list_any (same p) (prefixes len es) ≡ false
no_prefixes p len [] n = refl
no_prefixes p len (e ∷ es) n =
    ap (λ t. t || list_any (same p) (prefixes len es)) (other_len p e.0 len n) ∙ no_prefixes p len es n

length_passing : (t : Network → Bool) (es : List (Network × ℕ)) → length (filter (λ (e : Network × ℕ). t e.0) es) ≡ count_by t (keys_of es)
length_passing t [] = refl
length_passing t (e ∷ es) =
    let rest = length_passing t es in
    elim (t e.0) as (λ b. length (cond b (e ∷ filter (λ (d : Network × ℕ). t d.0) es) (filter (λ (d : Network × ℕ). t d.0) es)) ≡ one_if b + count_by t (keys_of es)) [
      | true ↦ omega (arith, rest)
      | false ↦ omega (arith, rest)
    ] ∙ sym (count_cons t e.0 (keys_of es))

some_if : (b : Bool) (x : Option ℕ) → is_some (cond b x None) ≡ (b && is_some x)
some_if true x = refl
some_if false x = refl

-- the rules of a length whose bits pass a test are as many as the entries of that length's map that pass it
module _ (R : RuleMap) (m : BTreeMap ℕ ℕ) (len : ℕ) (u : ℕ → Bool) (ordered : tree.IsOrdered nat_cmp m) (has : (b : ℕ) → tree.get nat_cmp m b ≡ get R (at_network b len)) where
  abbrev passes : Network → Bool
  passes p = nat_eq p.len len && u p.bits

  abbrev rules_passing : List (Network × ℕ)
  rules_passing = filter (λ (e : Network × ℕ). passes e.0) (entries R)

  abbrev entries_passing : List (ℕ × ℕ)
  entries_passing = filter (λ (e : ℕ × ℕ). u e.0) m.entries

  in_rules : (q : Network) → list_any (same q) (keys_of rules_passing) ≡ (passes q && is_some (get R q))
  in_rules q =
      sym (is_some-lookup (same q) rules_passing)
      ∙ ap is_some (lookup-filter-keys (same q) passes (passes q) (λ k h. ap passes (sym (same_is q k h))) (entries R))
      ∙ some_if (passes q) (lookup (same q) (entries R))
      ∙ ap (λ b. passes q && b) (is_some-lookup (same q) (entries R) ∙ key_of_rule R q)

  in_entries : (b : ℕ) → list_any (is_at (nat_cmp b)) (keys_of entries_passing) ≡ (u b && is_some (get R (at_network b len)))
  in_entries b =
      sym (is_some-lookup (is_at (nat_cmp b)) entries_passing)
      ∙ ap is_some (lookup-filter-keys (is_at (nat_cmp b)) u (u b) (λ k h. ap u (sym (number_is b k h))) m.entries)
      ∙ some_if (u b) (lookup (is_at (nat_cmp b)) m.entries)
      ∙ ap (λ x. u b && is_some x) (has b)

  members : (q : Network) → is_member same (keys_of rules_passing) q ≡ is_member same (prefixes len entries_passing) q
  members q = elim (cases_eq q.len len) [
    | inl e ↦
        in_rules q
        ∙ ap (λ l. (nat_eq l len && u q.bits) && is_some (get R (at_network q.bits l))) e
        ∙ ap (λ t. (t && u q.bits) && is_some (get R (at_network q.bits len))) (eq-eqb len len refl)
        ∙ sym (in_entries q.bits) ∙ sym (any_prefixes q.bits len entries_passing)
        ∙ ap (λ l. list_any (same (at_network q.bits l)) (prefixes len entries_passing)) (sym e)
    | inr n ↦
        in_rules q ∙ ap (λ t. (t && u q.bits) && is_some (get R q)) (ne_eqb q.len len n)
        ∙ sym (no_prefixes q len entries_passing n)
  ]

  pub count_of_length : length entries_passing ≡ count_by passes (keys R)
  count_of_length =
      sym (length-map entries_passing (λ (e : ℕ × ℕ). at_network e.0 len))
      ∙ sym (length-from_same_keys (eq_by_cmp_equiv networks_total) (keys_of rules_passing) (prefixes len entries_passing)
      (IsDistinct-keys_filter same (λ (e : Network × ℕ). passes e.0) (entries R) (sorted_distinct (entries R) (entries_sorted R)))
      (distinct_prefixes len entries_passing (IsDistinct-keys_filter (eq_by_cmp nat_cmp) (λ (e : ℕ × ℕ). u e.0) m.entries (IsDistinct-from_sorted nat_cmp (tree.keys m) ordered)))
      members)
      ∙ length-keys_of rules_passing
      ∙ length_passing passes (entries R)
