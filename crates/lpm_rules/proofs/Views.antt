use Rattle.std.proofs.Common.{arith, ◌≡◌, ◌≢◌, ℕ, suc, zero, ◌+◌, ◌<◌, ◌≤◌, inl, inr, Bool, true, false, cond, length, get_or, refl, ap, sym, ◌∙◌, subst, List, [], ◌∷◌, ◌++◌, Option, Some, None, ◌⊎◌, take}
use Rattle.std.specs.Prelude.{slice_set, nat_eq, ◌&&◌, IsSome, is_some}
use Rattle.std.specs.declared.cmp.Ordering.{Ordering}
use Rattle.std.specs.declared.cmp.Ordering.TheVariants.{Less, Equal, Greater}
use Rattle.std.specs.Ordering.{nat_cmp, ordering_then, eq_by_cmp, is_eq}
use Rattle.std.specs.Cmp.{IsTotalOrder, unsigned_tied, eq_by_cmp_equiv, tied_itself}
use Rattle.std.specs.Map.{lookup}
use Rattle.std.specs.BTreeMap.{BTreeMap, is_at}
use Rattle.std.specs.FinMap.{find, from_entries, get, insert, remove, empty, get-from_entries, get-insert, get-remove, same_map, len, get-empty, len-insert, len-empty}
use Rattle.std.proofs.lemmas.Cmp.{on_total, then_total, nat_cmp_total}
use Rattle.std.proofs.lemmas.Map.Lookups.{CmpEqualImpliesEq, exact_pairs, exact_unsigned}
use Rattle.std.proofs.lemmas.Bool.{cases_eq, cases_lt, eq-eqb, ne_eqb}
use Rattle.std.proofs.Math.Bool.{and-true, and-false}
use Rattle.std.proofs.Math.ListN.{length-set}
use Rattle.std.proofs.lemmas.List.{get_or-set_same, get_or-set_other, take_more, get_or-map}
use Rattle.lpm_bits.specs.Network.{Network, IsNetwork}
use Rattle.lpm_rules.specs.RuleMap.{RuleMap, network_cmp, AllNetworks, AllUpTo, place, with_rules, rules_of, prefix_at}
use Rattle.lpm_rules.specs.View.{of_length, entries_from, rules_of_lengths}
use Rattle.lpm_rules.specs.declared.Rule.{Rule}
use Rattle.std.specs.BTreeMap as tree

pub networks_total : IsTotalOrder network_cmp
networks_total = then_total (on_total (λ (p : Network). p.bits) nat_cmp_total) (on_total (λ (p : Network). p.len) nat_cmp_total)

-- prefixes that compare alike are one
pub exact_networks : CmpEqualImpliesEq network_cmp
exact_networks a b h = ap (λ (p : ℕ × ℕ). record { bits = p.0; len = p.1 }) (exact_pairs nat_cmp nat_cmp exact_unsigned exact_unsigned (a.bits, a.len) (b.bits, b.len) h)

both_equal : (o r : Ordering) → is_eq (ordering_then o r) ≡ (is_eq o && is_eq r)
both_equal Less r = refl
both_equal Equal r = refl
both_equal Greater r = refl

abbrev pub at_network : ℕ → ℕ → Network
at_network b l = record { bits = b; len = l }

-- whether two prefixes are one
pub network_test : (p q : Network) → eq_by_cmp network_cmp p q ≡ (nat_eq p.bits q.bits && nat_eq p.len q.len)
network_test p q =
    both_equal (nat_cmp p.bits q.bits) (nat_cmp p.len q.len)
    ∙ ap (λ b. b && is_eq (nat_cmp p.len q.len)) (unsigned_tied p.bits q.bits)
    ∙ ap (λ b. nat_eq p.bits q.bits && b) (unsigned_tied p.len q.len)

pub same_len : (b c l : ℕ) → eq_by_cmp network_cmp (at_network b l) (at_network c l) ≡ is_at (nat_cmp b) c
same_len b c l = network_test (at_network b l) (at_network c l) ∙ ap (λ t. nat_eq b c && t) (eq-eqb l l refl) ∙ and-true (nat_eq b c) ∙ sym (unsigned_tied b c)

pub other_len : (p : Network) (c l : ℕ) → p.len ≢ l → eq_by_cmp network_cmp p (at_network c l) ≡ false
other_len p c l n = network_test p (at_network c l) ∙ ap (λ t. nat_eq p.bits c && t) (ne_eqb p.len l n) ∙ and-false (nat_eq p.bits c)

abbrev or_else : Option ℕ → Option ℕ → Option ℕ
or_else None y = y
or_else (Some x) y = Some x

cond_or : (b : Bool) (x : ℕ) (y z : Option ℕ) → cond b (Some x) (or_else y z) ≡ or_else (cond b (Some x) y) z
cond_or true x y z = refl
cond_or false x y z = refl

find_append : (q : Network) (xs ys : List (Network × ℕ)) → find network_cmp q (xs ++ ys) ≡ or_else (find network_cmp q xs) (find network_cmp q ys)
find_append q [] ys = refl
find_append q (e ∷ xs) ys = ap (cond (eq_by_cmp network_cmp q e.0) (Some e.1)) (find_append q xs ys) ∙ cond_or (eq_by_cmp network_cmp q e.0) e.1 (find network_cmp q xs) (find network_cmp q ys)

find_of_length : (b l : ℕ) (es : List (ℕ × ℕ)) → find network_cmp (at_network b l) (of_length l es) ≡ lookup (is_at (nat_cmp b)) es
find_of_length b l [] = refl
find_of_length b l (e ∷ es) =
    ap (λ t. cond t (Some e.1) (find network_cmp (at_network b l) (of_length l es))) (same_len b e.0 l)
    ∙ ap (cond (is_at (nat_cmp b) e.0) (Some e.1)) (find_of_length b l es)

find_other_length : (p : Network) (l : ℕ) (es : List (ℕ × ℕ)) → p.len ≢ l → find network_cmp p (of_length l es) ≡ None
find_other_length p l [] n = refl
find_other_length p l (e ∷ es) n =
    ap (λ t. cond t (Some e.1) (find network_cmp p (of_length l es))) (other_len p e.0 l n) ∙ find_other_length p l es n

-- a prefix whose length none of the maps has
find_none : (p : Network) (l : ℕ) (ms : List (BTreeMap ℕ ℕ)) → ((k : ℕ) → k < length ms → p.len ≢ l + k) → find network_cmp p (entries_from l ms) ≡ None
find_none p l [] h = refl
find_none p l (m ∷ ms) h =
    find_append p (of_length l m.entries) (entries_from (l + 1) ms)
    ∙ ap (λ x. or_else x (find network_cmp p (entries_from (l + 1) ms))) (find_other_length p l m.entries (λ e. h 0 (omega arith) (omega (arith, e))))
    ∙ find_none p (l + 1) ms (λ k low e. h (suc k) (omega (arith, low)) (omega (arith, e)))

or_none : (x : Option ℕ) → or_else x None ≡ x
or_none None = refl
or_none (Some x) = refl

find_rules : (b l k n : ℕ) (ms : List (BTreeMap ℕ ℕ)) (d : BTreeMap ℕ ℕ) → n ≡ l + k → k < length ms
    → find network_cmp (at_network b n) (entries_from l ms) ≡ tree.get nat_cmp (get_or ms k d) b
find_rules b l k n [] d e h = absurd (omega (arith, h))
find_rules b l zero n (m ∷ ms) d e h =
    let z : n ≡ l = omega (arith, e) in
    subst (λ x. find network_cmp (at_network b x) (entries_from l (m ∷ ms)) ≡ tree.get nat_cmp m b) (sym z)
    (find_append (at_network b l) (of_length l m.entries) (entries_from (l + 1) ms)
    ∙ ap (or_else (find network_cmp (at_network b l) (of_length l m.entries))) (find_none (at_network b l) (l + 1) ms (λ i low e. absurd (omega (arith, e))))
    ∙ or_none _
    ∙ find_of_length b l m.entries)
find_rules b l (suc k) n (m ∷ ms) d e h =
    find_append (at_network b n) (of_length l m.entries) (entries_from (l + 1) ms)
    ∙ ap (λ x. or_else x (find network_cmp (at_network b n) (entries_from (l + 1) ms))) (find_other_length (at_network b n) l m.entries (λ z. absurd (omega (arith, z, e))))
    ∙ find_rules b (l + 1) k n ms d (omega (arith, e)) (omega (arith, h))

-- what the rule list has at a prefix, by the map of its length
pub get_rules : (ms : List (BTreeMap ℕ ℕ)) (p : Network) (d : BTreeMap ℕ ℕ) → p.len < length ms → get (rules_of_lengths ms) p ≡ tree.get nat_cmp (get_or ms p.len d) p.bits
get_rules ms p d h = get-from_entries networks_total (entries_from 0 ms) p ∙ find_rules p.bits 0 p.len p.len ms d (omega arith) h

pub get_past : (ms : List (BTreeMap ℕ ℕ)) (p : Network) → length ms ≤ p.len → get (rules_of_lengths ms) p ≡ None
get_past ms p h = get-from_entries networks_total (entries_from 0 ms) p ∙ find_none p 0 ms (λ k low e. absurd (omega (arith, h, low, e)))

-- one map has `w` at one key, and else what it had, and so has the rule list N
written : (ms : List (BTreeMap ℕ ℕ)) (p : Network) (w : Option ℕ) (m d : BTreeMap ℕ ℕ) (N : RuleMap) → p.len < length ms
    → ((q : ℕ) → tree.get nat_cmp m q ≡ cond (is_at (nat_cmp p.bits) q) w (tree.get nat_cmp (get_or ms p.len d) q))
    → ((q : Network) → get N q ≡ cond (eq_by_cmp network_cmp q p) w (get (rules_of_lengths ms) q))
    → rules_of_lengths (slice_set ms p.len m) ≡ N
written ms p w m d N h is has = same_map networks_total exact_networks _ _ (λ q.
    let n : length (slice_set ms p.len m) ≡ length ms = length-set ms p.len m in
    elim (cases_eq q.len p.len) [
      | inl e ↦
          let h2 : q.len < length ms = omega (arith, e, h) in
          get_rules (slice_set ms p.len m) q d (omega (arith, n, h2))
          ∙ ap (λ x. tree.get nat_cmp (get_or (slice_set ms p.len m) x d) q.bits) e
          ∙ ap (λ x. tree.get nat_cmp x q.bits) (get_or-set_same ms p.len m d h)
          ∙ is q.bits
          ∙ ap (λ t. cond t w (tree.get nat_cmp (get_or ms p.len d) q.bits))
          (sym (same_len p.bits q.bits p.len) ∙ ap (λ x. eq_by_cmp network_cmp p (at_network q.bits x)) (sym e) ∙ (eq_by_cmp_equiv networks_total).symm p q)
          ∙ ap (λ x. cond (eq_by_cmp network_cmp q p) w (tree.get nat_cmp (get_or ms x d) q.bits)) (sym e)
          ∙ ap (cond (eq_by_cmp network_cmp q p) w) (sym (get_rules ms q d h2))
          ∙ sym (has q)
      | inr ne ↦
          let apart = other_len q p.bits p.len ne in
          let same : get (rules_of_lengths (slice_set ms p.len m)) q ≡ get (rules_of_lengths ms) q =
          elim (cases_lt q.len (length ms)) [
            | inl below ↦ get_rules (slice_set ms p.len m) q d (omega (arith, n, below)) ∙ ap (λ x. tree.get nat_cmp x q.bits) (get_or-set_other ms p.len q.len m d ne) ∙ sym (get_rules ms q d below)
            | inr past ↦ get_past (slice_set ms p.len m) q (omega (arith, n, past)) ∙ sym (get_past ms q past)
          ] in
          same ∙ sym (ap (λ t. cond t w (get (rules_of_lengths ms) q)) apart) ∙ sym (has q)
    ])

-- the same, where the code has the bits and the length as numbers
pub get_at : (ms : List (BTreeMap ℕ ℕ)) (p : Network) (b l : ℕ) (d : BTreeMap ℕ ℕ) → b ≡ p.bits → l ≡ p.len → l < length ms → tree.get nat_cmp (get_or ms l d) b ≡ get (rules_of_lengths ms) p
get_at ms p b l d eb el h =
    ap (λ x. tree.get nat_cmp (get_or ms x d) b) el ∙ ap (λ x. tree.get nat_cmp (get_or ms p.len d) x) eb ∙ sym (get_rules ms p d (omega (arith, el, h)))

written_at : (ms : List (BTreeMap ℕ ℕ)) (p : Network) (b l : ℕ) (w : Option ℕ) (m d : BTreeMap ℕ ℕ) (N : RuleMap) → b ≡ p.bits → l ≡ p.len → l < length ms
    → ((q : ℕ) → tree.get nat_cmp m q ≡ cond (is_at (nat_cmp b) q) w (tree.get nat_cmp (get_or ms l d) q))
    → ((q : Network) → get N q ≡ cond (eq_by_cmp network_cmp q p) w (get (rules_of_lengths ms) q))
    → rules_of_lengths (slice_set ms l m) ≡ N
written_at ms p b l w m d N eb el h is has =
    ap (λ x. rules_of_lengths (slice_set ms x m)) el ∙ written ms p w m d N (omega (arith, el, h)) (λ q.
    is q ∙ ap (λ x. cond (is_at (nat_cmp x) q) w (tree.get nat_cmp (get_or ms l d) q)) eb ∙ ap (λ x. cond (is_at (nat_cmp p.bits) q) w (tree.get nat_cmp (get_or ms x d) q)) el) has

pub set_at : (ms : List (BTreeMap ℕ ℕ)) (p : Network) (b l v : ℕ) (m d : BTreeMap ℕ ℕ) → b ≡ p.bits → l ≡ p.len → l < length ms
    → ((q : ℕ) → tree.get nat_cmp m q ≡ cond (is_at (nat_cmp b) q) (Some v) (tree.get nat_cmp (get_or ms l d) q))
    → rules_of_lengths (slice_set ms l m) ≡ insert (rules_of_lengths ms) p v
set_at ms p b l v m d eb el h is = written_at ms p b l (Some v) m d _ eb el h is (get-insert networks_total (rules_of_lengths ms) p v)

pub unset_at : (ms : List (BTreeMap ℕ ℕ)) (p : Network) (b l : ℕ) (m d : BTreeMap ℕ ℕ) → b ≡ p.bits → l ≡ p.len → l < length ms
    → ((q : ℕ) → tree.get nat_cmp m q ≡ cond (is_at (nat_cmp b) q) None (tree.get nat_cmp (get_or ms l d) q))
    → rules_of_lengths (slice_set ms l m) ≡ remove (rules_of_lengths ms) p
unset_at ms p b l m d eb el h is = written_at ms p b l None m d _ eb el h is (get-remove networks_total (rules_of_lengths ms) p)

-- a map with the same entries
keep_from : (l k : ℕ) (ms : List (BTreeMap ℕ ℕ)) (m d : BTreeMap ℕ ℕ) → k < length ms → m.entries ≡ (get_or ms k d).entries → entries_from l (slice_set ms k m) ≡ entries_from l ms
keep_from l k [] m d h e = absurd (omega (arith, h))
keep_from l zero (x ∷ ms) m d h e = ap (λ es. of_length l es ++ entries_from (l + 1) ms) e
keep_from l (suc k) (x ∷ ms) m d h e = ap (λ es. of_length l x.entries ++ es) (keep_from (l + 1) k ms m d (omega (arith, h)) e)

pub keep_at : (ms : List (BTreeMap ℕ ℕ)) (k : ℕ) (m d : BTreeMap ℕ ℕ) → k < length ms → m.entries ≡ (get_or ms k d).entries → rules_of_lengths (slice_set ms k m) ≡ rules_of_lengths ms
keep_at ms k m d h e = ap (λ es. from_entries {R = network_cmp} es) (keep_from 0 k ms m d h e)

-- maps that are all empty
none_from : (l : ℕ) (ms : List (BTreeMap ℕ ℕ)) → ((i : ℕ) (d : BTreeMap ℕ ℕ) → i < length ms → (get_or ms i d).entries ≡ []) → entries_from l ms ≡ []
none_from l [] h = refl
none_from l (m ∷ ms) h =
    ap (λ es. of_length l es ++ entries_from (l + 1) ms) (h 0 m (omega arith))
    ∙ none_from (l + 1) ms (λ i d p. h (suc i) d (omega (arith, p)))

pub none_at : (ms : List (BTreeMap ℕ ℕ)) → ((i : ℕ) (d : BTreeMap ℕ ℕ) → i < length ms → (get_or ms i d).entries ≡ []) → rules_of_lengths ms ≡ empty
none_at ms h = ap (λ es. from_entries {R = network_cmp} es) (none_from 0 ms h)

-- What a rule list has after a rule is put in or taken out, and how many rules that is.

pub not_some : {x : Option ℕ} → x ≡ None → IsSome x → ⊥
not_some e s =
    let z : IsSome {T = ℕ} None = subst IsSome e s in
    let y : false ≡ true = z in
    cc

-- a rule list N that has w at p, and else what R has
changed_by : (R N : RuleMap) (p q : Network) (w : Option ℕ) (o : Ordering) → network_cmp q p ≡ o → cond (is_eq o) w (get R q) ≡ get N q → ((q ≡ p) × (get N q ≡ w)) ⊎ (get N q ≡ get R q)
changed_by R N p q w Less e g = inr (sym g)
changed_by R N p q w Equal e g = inl (exact_networks q p e, sym g)
changed_by R N p q w Greater e g = inr (sym g)

-- a rule list with a rule put in has that rule, and else what it had
pub insert_cases : (R : RuleMap) (p : Network) (h : ℕ) (q : Network) → ((q ≡ p) × (get (insert R p h) q ≡ Some h)) ⊎ (get (insert R p h) q ≡ get R q)
insert_cases R p h q = changed_by R (insert R p h) p q (Some h) (network_cmp q p) refl (sym (get-insert networks_total R p h q))

pub insert_here : (R : RuleMap) (p : Network) (h : ℕ) → get (insert R p h) p ≡ Some h
insert_here R p h = get-insert networks_total R p h p ∙ ap (λ o. cond (is_eq o) (Some h) (get R p)) (tied_itself networks_total p)

-- a rule list with a rule taken out has no rule there, and else what it had
pub remove_cases : (R : RuleMap) (p q : Network) → ((q ≡ p) × (get (remove R p) q ≡ None)) ⊎ (get (remove R p) q ≡ get R q)
remove_cases R p q = changed_by R (remove R p) p q None (network_cmp q p) refl (sym (get-remove networks_total R p q))

pub remove_here : (R : RuleMap) (p : Network) → get (remove R p) p ≡ None
remove_here R p = get-remove networks_total R p p ∙ ap (λ o. cond (is_eq o) None (get R p)) (tied_itself networks_total p)

-- to put in a rule that is there changes nothing
pub insert_same : (R : RuleMap) (p : Network) (h : ℕ) → get R p ≡ Some h → insert R p h ≡ R
insert_same R p h e = same_map networks_total exact_networks _ _ (λ q. elim (insert_cases R p h q) [
  | inl k ↦ k.1 ∙ sym e ∙ ap (get R) (sym k.0)
  | inr k ↦ k
])

-- to take out the new rule that was put in gives the list that was
pub remove_insert : (R : RuleMap) (p : Network) (h : ℕ) → get R p ≡ None → remove (insert R p h) p ≡ R
remove_insert R p h e = same_map networks_total exact_networks _ _ (λ q. elim (remove_cases (insert R p h) p q) [
  | inl k ↦ k.1 ∙ sym e ∙ ap (get R) (sym k.0)
  | inr k ↦ elim (insert_cases R p h q) [
    | inl i ↦ ap (get (remove (insert R p h) p)) i.0 ∙ remove_here (insert R p h) p ∙ sym e ∙ ap (get R) (sym i.0)
    | inr i ↦ k ∙ i
  ]
])

-- to put back the rule that was taken out gives the list that was
pub insert_remove : (R : RuleMap) (p : Network) (h : ℕ) → get R p ≡ Some h → insert (remove R p) p h ≡ R
insert_remove R p h e = same_map networks_total exact_networks _ _ (λ q. elim (insert_cases (remove R p) p h q) [
  | inl k ↦ k.1 ∙ sym e ∙ ap (get R) (sym k.0)
  | inr k ↦ elim (remove_cases R p q) [
    | inl i ↦ ap (get (insert (remove R p) p h)) i.0 ∙ insert_here (remove R p) p h ∙ sym e ∙ ap (get R) (sym i.0)
    | inr i ↦ k ∙ i
  ]
])

-- how many rules
pub size_added : (R : RuleMap) (p : Network) (h : ℕ) → get R p ≡ None → len (insert R p h) ≡ len R + 1
size_added R p h e = len-insert networks_total R p h ∙ ap (λ x. cond (is_some x) (len R) (len R + 1)) e

pub size_replaced : (R : RuleMap) (p : Network) (h old : ℕ) → get R p ≡ Some old → len (insert R p h) ≡ len R
size_replaced R p h old e = len-insert networks_total R p h ∙ ap (λ x. cond (is_some x) (len R) (len R + 1)) e

pub size_removed : (R : RuleMap) (p : Network) (old : ℕ) → get R p ≡ Some old → len (remove R p) + 1 ≡ len R
size_removed R p old e = sym (size_added (remove R p) p old (remove_here R p)) ∙ ap len (insert_remove R p old e)

-- each prefix is still one of addresses of this width
pub networks_empty : (width : ℕ) → AllNetworks width empty
networks_empty width q some = absurd (not_some (get-empty network_cmp q) some)

pub networks_insert : (width : ℕ) (R : RuleMap) (p : Network) (h : ℕ) → IsNetwork width p → AllNetworks width R → AllNetworks width (insert R p h)
networks_insert width R p h n a q some = elim (insert_cases R p h q) [
  | inl k ↦ subst (IsNetwork width) (sym k.0) n
  | inr k ↦ a q (subst IsSome k some)
]

pub networks_remove : (width : ℕ) (R : RuleMap) (p : Network) → AllNetworks width R → AllNetworks width (remove R p)
networks_remove width R p a q some = elim (remove_cases R p q) [
  | inl k ↦ absurd (not_some k.1 some)
  | inr k ↦ a q (subst IsSome k some)
]

-- How many rules there are after one more that stands behind the others.

same_place : (p q : Network) → p.len ≤ 32 → q.len ≤ 32 → place p ≡ place q → p ≡ q
same_place p q a b e =
    let bits : p.bits ≡ q.bits = omega (arith, a, b, e) in
    let len : p.len ≡ q.len = omega (arith, a, b, e) in
    λ i. record { bits = bits i; len = len i }

pub none_or : (o : Option ℕ) → (IsSome o → ⊥) → o ≡ None
none_or None h = refl
none_or (Some x) h = absurd (h refl)

some_of : (o : Option ℕ) → IsSome o → (x : ℕ) × (o ≡ Some x)
some_of None h = absurd cc
some_of (Some x) h = (x, refl)

pub one_more : (R : RuleMap) (p : Network) (h last : ℕ) → AllUpTo R last → last < place p → len (insert R p h) ≡ len R + 1
one_more R p h last before behind = size_added R p h (none_or (get R p) (λ some. let z = before p some in absurd (omega (arith, z, behind))))

pub no_more : (R : RuleMap) (p q : Network) (h : ℕ) → p.len ≤ 32 → q.len ≤ 32 → place q ≡ place p → IsSome (get R q) → len (insert R p h) ≡ len R
no_more R p q h a b e some =
    let same = same_place q p b a e in
    let old = some_of (get R p) (subst (λ x. IsSome (get R x)) same some) in
    size_replaced R p h old.0 old.1

pub is_there : (R : RuleMap) (p : Network) (h : ℕ) → IsSome (get (insert R p h) p)
is_there R p h = subst IsSome (sym (insert_here R p h)) refl

pub first_one : (p : Network) (h : ℕ) → len (insert (empty {K = Network} {X = ℕ} {R = network_cmp}) p h) ≡ 1
first_one p h = let z : len (insert (empty {K = Network} {X = ℕ} {R = network_cmp}) p h) ≡ len (empty {K = Network} {X = ℕ} {R = network_cmp}) + 1 = size_added empty p h (get-empty network_cmp p) in let none : len (empty {K = Network} {X = ℕ} {R = network_cmp}) ≡ 0 = len-empty network_cmp ℕ in z ∙ ap (λ n. n + 1) none

-- The rules of a list, one more of them, and how far behind their prefixes stand.

with_rules-snoc : {f s : ℕ} (R : RuleMap) (rs : List (Rule f s)) (r : Rule f s) → with_rules R (rs ++ r ∷ []) ≡ insert (with_rules R rs) r.prefix r.hop
with_rules-snoc R [] r = refl
with_rules-snoc R (x ∷ rs) r = with_rules-snoc (insert R x.prefix x.hop) rs r

-- the rules up to the one that is read
pub rules_more : {f s : ℕ} (rs : List (Rule f s)) (k : ℕ) (r : Rule f s) → k < length rs → r ≡ get_or rs k r → rules_of (take (k + 1) rs) ≡ insert (rules_of (take k rs)) r.prefix r.hop
rules_more {f} {s} rs k r h e =
    let more : take (k + 1) rs ≡ take k rs ++ r ∷ [] = take_more rs k r h ∙ ap (λ (x : Rule f s). take k rs ++ x ∷ []) (sym e) in
    ap (λ (l : List (Rule f s)). rules_of l) more ∙ with_rules-snoc empty (take k rs) r

pub prefix_read : {f s : ℕ} (rs : List (Rule f s)) (k : ℕ) (r : Rule f s) → k < length rs → r ≡ get_or rs k r → prefix_at rs k ≡ r.prefix
prefix_read {f} {s} rs k r h e = get_or-map (λ (x : Rule f s). x.prefix) rs k r (record { bits = 0; len = 0 }) h ∙ ap (λ (x : Rule f s). x.prefix) (sym e)

-- no prefix stands behind that of the last rule
pub up_to_insert : (R : RuleMap) (p : Network) (h : ℕ) → AllUpTo R (place p) → AllUpTo (insert R p h) (place p)
up_to_insert R p h before = λ q some. elim (insert_cases R p h q) [
  | inl same ↦ let e = ap place same.0 in omega (arith, e)
  | inr old ↦ before q (subst IsSome old some)
]

pub up_to_more : (R : RuleMap) (m n : ℕ) → m ≤ n → AllUpTo R m → AllUpTo R n
up_to_more R m n l before = λ q some. let z = before q some in omega (arith, z, l)
