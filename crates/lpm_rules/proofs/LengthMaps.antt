-- Maps that are collected from the rules of each length.
use Rattle.std.proofs.Common.{arith, ◌≡◌, ℕ, ap, sym, ◌∙◌, Bool, true, false, cond, List, [], ◌∷◌, Option, Some, None, nat_eq, inl, inr, ◌+◌, ◌<◌, ◌≤◌, length, get_or, subst, ◌++◌, take, ◌-◌}
use Rattle.std.specs.Ordering.{nat_cmp, eq_by_cmp}
use Rattle.std.specs.Map.{update, update_all}
use Rattle.std.specs.FinMap.{get, insert, empty, get-insert, get-empty, same_map, len, remove, len-empty}
use Rattle.std.proofs.lemmas.Bool.{cases_Bool, cases_eq, cases_lt, eqb-true, false≢true, eq-eqb, ne_eqb, and_from}
use Rattle.lpm_bits.specs.Network.{Network, IsNetwork}
use Rattle.lpm_rules.specs.RuleMap.{RuleMap, AllNetworks, network_cmp, RuleList, LacksRoomFor, with_rules, rules_of}
use Rattle.lpm_rules.specs.declared.Rule.{Rule}
use Rattle.lpm_rules.proofs.Views.{networks_total, exact_networks, network_test, other_len, at_network, get_rules, get_past, none_at, get_at, keep_at, set_at, unset_at, none_or, networks_insert, networks_empty, networks_remove, size_added, size_replaced, size_removed, rules_more}
use Rattle.lpm_rules.specs.View.{rules_of_lengths, IsSound}
use Rattle.std.specs.BTreeMap.{BTreeMap, IsFromIterResult, is_at}
use Rattle.std.specs.Cmp.{unsigned_tied}
use Rattle.std.specs.Prelude.{◌&&◌, map, filter, slice_set}
use Rattle.lpm_rules.specs.Changes.{pairs_of, ArePairs, AreCollected}
use Rattle.std.specs.declared.vec.Vec.{Vec}
use Rattle.std.proofs.lemmas.List.{take_more, get_or-set_same, get_or-set_other, get_or_default, append-nil}
use Rattle.std.proofs.Math.ListN.{length-set}
use Rattle.lpm_bits.specs.Widths.{IsShape}
use Rattle.std.specs.BTreeMap as tree

abbrev eq : ℕ → ℕ → Bool
eq = eq_by_cmp nat_cmp

-- the two tests, of the bits alone and of the prefix
put_at : (R : RuleMap) (m : ℕ → Option ℕ) (p : Network) (k l c : ℕ) → p.len ≡ l → m c ≡ get R (at_network c l) → update eq m p.bits (Some k) c ≡ get (insert R p k) (at_network c l)
put_at R m p k l c this same = elim (cases_eq p.bits c) [
  | inl e ↦
      let left : eq p.bits c ≡ true = unsigned_tied p.bits c ∙ eq-eqb p.bits c e in
      let right : eq_by_cmp network_cmp (at_network c l) p ≡ true = network_test (at_network c l) p ∙ and_from (nat_eq c p.bits) (nat_eq l p.len) (eq-eqb c p.bits (sym e)) (eq-eqb l p.len (sym this)) in
      ap (λ (t : Bool). cond t (Some k) (m c)) left ∙ sym (get-insert networks_total R p k (at_network c l) ∙ ap (λ (t : Bool). cond t (Some k) (get R (at_network c l))) right)
  | inr n ↦
      let left : eq p.bits c ≡ false = unsigned_tied p.bits c ∙ ne_eqb p.bits c n in
      let right : eq_by_cmp network_cmp (at_network c l) p ≡ false = network_test (at_network c l) p ∙ ap (λ (t : Bool). t && nat_eq l p.len) (ne_eqb c p.bits (λ e. n (sym e))) in
      ap (λ (t : Bool). cond t (Some k) (m c)) left ∙ (same ∙ sym (get-insert networks_total R p k (at_network c l) ∙ ap (λ (t : Bool). cond t (Some k) (get R (at_network c l))) right))
]

pub collected : {f s : ℕ} (l : ℕ) (rs : List (Rule f s)) (R : RuleMap) (m : ℕ → Option ℕ) → ((b : ℕ) → m b ≡ get R (at_network b l)) → (b : ℕ) → update_all eq m (pairs_of l rs) b ≡ get (with_rules R rs) (at_network b l)
collected l [] R m same b = same b
collected {f} {s} l (r ∷ rs) R m same b =
    let p = r.prefix in
    let k = r.hop in
    let left = filter (λ (x : Rule f s). nat_eq x.prefix.len l) rs in
    let pairs : List (Rule f s) → List (ℕ × ℕ) = λ xs. map {B = ℕ × ℕ} (λ (x : Rule f s). (x.prefix.bits, x.hop)) xs in
    elim (cases_Bool (nat_eq p.len l)) [
      | inl this ↦
          ap (λ (t : Bool). update_all eq m (pairs (cond t (r ∷ left) left)) b) this
          ∙ collected l rs (insert R p k) (update eq m p.bits (Some k)) (λ c. put_at R m p k l c (eqb-true p.len l this) (same c)) b
      | inr other ↦
          ap (λ (t : Bool). update_all eq m (pairs (cond t (r ∷ left) left)) b) other
          ∙ collected l rs (insert R p k) m (λ c. same c ∙ sym (get-insert networks_total R p k (at_network c l) ∙ ap (λ (t : Bool). cond t (Some k) (get R (at_network c l))) (other_len (at_network c l) p.bits p.len (λ e. false≢true (sym other ∙ eq-eqb p.len l (sym e)))))) b
    ]

pub of_length_law : {f s : ℕ} (l : ℕ) (rs : List (Rule f s)) (m : BTreeMap ℕ ℕ) → IsFromIterResult nat_cmp (pairs_of l rs) m → (b : ℕ) → tree.get nat_cmp m b ≡ get (rules_of rs) (at_network b l)
of_length_law l rs m made b = made.0 b ∙ collected l rs empty (λ _. None) (λ q. sym (get-empty network_cmp (at_network q l))) b

some_item : {A : Type 0} (xs : List A) → length xs ≡ 33 → A
some_item [] h = absurd (omega (arith, h))
some_item (x ∷ xs) h = x

pub all_lengths : {f s : ℕ} (rs : List (Rule f s)) (ms : List (BTreeMap ℕ ℕ)) → f + s ≤ 32 → AllNetworks (f + s) (rules_of rs) → length ms ≡ 33 → ((l : ℕ) (d : BTreeMap ℕ ℕ) → l < 33 → IsFromIterResult nat_cmp (pairs_of l rs) (get_or ms l d)) → rules_of_lengths ms ≡ rules_of rs
all_lengths rs ms fits nets long made = same_map networks_total exact_networks (rules_of_lengths ms) (rules_of rs) (λ p.
    let d = some_item ms long in
    elim (cases_lt p.len 33) [
      | inl low ↦ get_rules ms p d (omega (arith, low, long)) ∙ of_length_law p.len rs (get_or ms p.len d) (made p.len d low) p.bits
      | inr high ↦ get_past ms p (omega (arith, high, long)) ∙ sym (none_or (get (rules_of rs) p) (λ some. let z = (nets p some).0 in absurd (omega (arith, z, fits, high))))
    ])

-- The pairs of each length, after one more rule of a list.

abbrev pair_if : Bool → ℕ → ℕ → List (ℕ × ℕ)
pair_if t b h = cond t ((b, h) ∷ []) []

-- the rule stands last among those of its length
pairs-snoc : {f s : ℕ} (l : ℕ) (rs : List (Rule f s)) (r : Rule f s) → pairs_of l (rs ++ r ∷ []) ≡ pairs_of l rs ++ pair_if (nat_eq r.prefix.len l) r.prefix.bits r.hop
pairs-snoc {f} {s} l [] r = elim (cases_Bool (nat_eq r.prefix.len l)) [
  | inl here ↦ cc
  | inr other ↦ cc
]
pairs-snoc {f} {s} l (x ∷ rs) r =
    let rest = pairs-snoc l rs r in
    elim (cases_Bool (nat_eq x.prefix.len l)) [
      | inl here ↦ cc
      | inr other ↦ cc
    ]

module _ {f s : ℕ} (rs : List (Rule f s)) (k : ℕ) (r : Rule f s) (within : k < length rs) (read : r ≡ get_or rs k r) where
  pairs_more : (l : ℕ) → pairs_of l (take (k + 1) rs) ≡ pairs_of l (take k rs) ++ pair_if (nat_eq r.prefix.len l) r.prefix.bits r.hop
  pairs_more l =
      let more : take (k + 1) rs ≡ take k rs ++ r ∷ [] = take_more rs k r within ∙ ap (λ (x : Rule f s). take k rs ++ x ∷ []) (sym read) in
      ap (λ (xs : List (Rule f s)). pairs_of l xs) more ∙ pairs-snoc l (take k rs) r

  pub pairs_on : {Z : Type 0} (ls : List (Vec (ℕ × ℕ) Z)) (v d : Vec (ℕ × ℕ) Z) (b l : ℕ) → b ≡ r.prefix.bits → l ≡ r.prefix.len → l < length ls
      → v.items ≡ (get_or ls l d).items ++ (b, r.hop) ∷ [] → ArePairs (take k rs) ls → ArePairs (take (k + 1) rs) (slice_set ls l v)
  pairs_on {Z} ls v d b l eb el low pushed pairs = record {
    long = length-set ls l v ∙ pairs.long;
    each = λ m e small. elim (cases_eq m l) [
      | inl same ↦
          let test : nat_eq r.prefix.len m ≡ true = eq-eqb r.prefix.len m (sym el ∙ sym same) in
          let old : (get_or ls l d).items ≡ pairs_of l (take k rs) = pairs.each l d (subst (λ x. x < 33) same small) in
          ap (λ x. (get_or (slice_set ls l v) x e).items) same
          ∙ ap (λ (w : Vec (ℕ × ℕ) Z). w.items) (get_or-set_same ls l v e low)
          ∙ pushed
          ∙ ap (λ (xs : List (ℕ × ℕ)). xs ++ (b, r.hop) ∷ []) old
          ∙ ap (λ x. pairs_of x (take k rs) ++ (b, r.hop) ∷ []) (sym same)
          ∙ ap (λ x. pairs_of m (take k rs) ++ (x, r.hop) ∷ []) eb
          ∙ ap (λ t. pairs_of m (take k rs) ++ pair_if t r.prefix.bits r.hop) (sym test)
          ∙ sym (pairs_more m)
      | inr other ↦
          let test : nat_eq r.prefix.len m ≡ false = ne_eqb r.prefix.len m (λ x. other (sym x ∙ sym el)) in
          let none : pairs_of m (take k rs) ++ [] ≡ pairs_of m (take k rs) = append-nil (pairs_of m (take k rs)) in
          ap (λ (w : Vec (ℕ × ℕ) Z). w.items) (get_or-set_other ls l m v e other)
          ∙ pairs.each m e small
          ∙ sym (pairs_more m ∙ ap (λ t. pairs_of m (take k rs) ++ pair_if t r.prefix.bits r.hop) test ∙ none)
    ];
  }

  pub networks_on : (w : ℕ) → IsNetwork w r.prefix → AllNetworks w (rules_of (take k rs)) → AllNetworks w (rules_of (take (k + 1) rs))
  networks_on w net nets = subst (λ (R : RuleMap). AllNetworks w R) (sym (rules_more rs k r within read)) (networks_insert w (rules_of (take k rs)) r.prefix r.hop net nets)

-- one more list is collected
pub collected_on : {Z : Type 0} (ls : List (Vec (ℕ × ℕ) Z)) (ms : List (BTreeMap ℕ ℕ)) (n : ℕ) (m : BTreeMap ℕ ℕ) (v : Vec (ℕ × ℕ) Z) → n < length ms
    → n < length ls → IsFromIterResult nat_cmp (get_or ls n v).items m
    → ((k : ℕ) (a : Vec (ℕ × ℕ) Z) (d : BTreeMap ℕ ℕ) → k < n → IsFromIterResult nat_cmp (get_or ls k a).items (get_or ms k d))
    → (k : ℕ) (a : Vec (ℕ × ℕ) Z) (d : BTreeMap ℕ ℕ) → k < n + 1 → IsFromIterResult nat_cmp (get_or ls k a).items (get_or (slice_set ms n m) k d)
collected_on {Z} ls ms n m v low within new made k a d small = elim (cases_eq k n) [
  | inl same ↦
      let list : get_or ls n v ≡ get_or ls k a = get_or_default ls n v a within ∙ ap (λ x. get_or ls x a) (sym same) in
      let map : m ≡ get_or (slice_set ms n m) k d = sym (get_or-set_same ms n m d low) ∙ ap (λ x. get_or (slice_set ms n m) x d) (sym same) in
      subst (λ (x : BTreeMap ℕ ℕ). IsFromIterResult nat_cmp (get_or ls k a).items x) map
      (subst (λ (w : Vec (ℕ × ℕ) Z). IsFromIterResult nat_cmp w.items m) list new)
  | inr other ↦
      subst (λ (x : BTreeMap ℕ ℕ). IsFromIterResult nat_cmp (get_or ls k a).items x) (sym (get_or-set_other ms n k m d other))
      (made k a d (omega (arith, small, other)))
]

module _ (f s : ℕ) {Z : Type 0} (rs : List (Rule f s)) (ls : List (Vec (ℕ × ℕ) Z)) (ms : List (BTreeMap ℕ ℕ)) (shape : IsShape f s) (nets : AllNetworks (f + s) (rules_of rs))
    (pairs : ArePairs rs ls) (collected : AreCollected ls ms) where
  -- the maps have the rules of the list
  pub lengths_are : rules_of_lengths ms ≡ rules_of rs
  lengths_are =
      let v = some_item ls pairs.long in
      all_lengths rs ms shape.2 nets collected.long (λ l m low.
      subst (λ (xs : List (ℕ × ℕ)). IsFromIterResult nat_cmp xs (get_or ms l m)) (pairs.each l v low) (collected.each l v m low))

  pub sound_of : (count : ℕ) → count ≡ len (rules_of rs) → IsSound f s ms count
  sound_of count is = record {
    shape = shape;
    lengths = collected.long;
    networks = subst (λ (R : RuleMap). AllNetworks (f + s) R) (sym lengths_are) nets;
    counted = is ∙ ap (λ (R : RuleMap). len R) (sym lengths_are);
  }

-- What the maps and the number of rules keep, through a change of one map.

-- the maps came to hold the rules R, and the number of rules is that of R
pub sound_at : (first second : ℕ) (ms ns : List (BTreeMap ℕ ℕ)) (n k : ℕ) (R : _) → IsSound first second ms n → length ns ≡ length ms
    → rules_of_lengths ns ≡ R → AllNetworks (first + second) R → k ≡ len R → IsSound first second ns k
sound_at first second ms ns n k R s long is nets size = record {
  shape = s.shape;
  lengths = long ∙ s.lengths;
  networks = subst (AllNetworks (first + second)) (sym is) nets;
  counted = size ∙ ap len (sym is);
}

pub sound_empty : (first second : ℕ) (ms : List (BTreeMap ℕ ℕ)) → IsShape first second → length ms ≡ 33
    → ((i : ℕ) (d : BTreeMap ℕ ℕ) → i < length ms → (get_or ms i d).entries ≡ []) → IsSound first second ms 0
sound_empty first second ms shape long h = record {
  shape = shape;
  lengths = long;
  networks = subst (AllNetworks (first + second)) (sym (none_at ms h)) (networks_empty (first + second));
  counted = sym (len-empty network_cmp ℕ) ∙ ap len (sym (none_at ms h));
}

-- ---- one rule is put in or taken out

-- of the maps of a list that callers see as `list`, the one of the length l has the rule of p at the key b
pub record IsPlace (first second : ℕ) (ms : List (BTreeMap ℕ ℕ)) (n max : ℕ) (list : RuleList) (p : Network) (b l : ℕ) : Type 0 where
  pub sound : IsSound first second ms n
  pub view : record { rules = rules_of_lengths ms; max = max } ≡ list
  pub bits : b ≡ p.bits
  pub len : l ≡ p.len
  pub bound : l ≤ first + second

module _ {first second n max b l : ℕ} {ms : List (BTreeMap ℕ ℕ)} {list : RuleList} {p : Network} (at : IsPlace first second ms n max list p b l) (d : BTreeMap ℕ ℕ) where
  -- the map m has w there, and else what the map of this length had
  abbrev Writes : BTreeMap ℕ ℕ → Option ℕ → Type 0
  Writes m w = (q : ℕ) → tree.get nat_cmp m q ≡ cond (is_at (nat_cmp b) q) w (tree.get nat_cmp (get_or ms l d) q)

  abbrev seen : List (BTreeMap ℕ ℕ) → RuleList
  seen ns = record { rules = rules_of_lengths ns; max = max }

  within : l < length ms
  within = let long = at.sound.lengths in let shape = at.sound.shape in let bound = at.bound in omega (arith, long, shape, bound)

  kept_there : tree.get nat_cmp (get_or ms l d) b ≡ get (rules_of_lengths ms) p
  kept_there = get_at ms p b l d at.bits at.len within

  -- what the list had
  pub had : tree.get nat_cmp (get_or ms l d) b ≡ get list.rules p
  had = kept_there ∙ ap (λ (x : RuleList). get x.rules p) at.view

  pub has_room : ¬ LacksRoomFor list p → tree.get nat_cmp (get_or ms l d) b ≡ None → n < max
  has_room room none =
      let counted = at.sound.counted ∙ ap (λ (x : RuleList). len x.rules) at.view in
      let most = ap (λ (x : RuleList). x.max) at.view in
      let few : list.max ≤ len list.rules → ⊥ = λ full. room (sym had ∙ none, full) in
      omega (arith, counted, most, few)

  pub has_one : (old : ℕ) → tree.get nat_cmp (get_or ms l d) b ≡ Some old → 0 < n
  has_one old some =
      let size = size_removed (rules_of_lengths ms) p old (sym kept_there ∙ some) in
      let counted = at.sound.counted in
      omega (arith, size, counted)

  module _ (m : BTreeMap ℕ ℕ) where
    pub put_in : (v : ℕ) → Writes m (Some v) → seen (slice_set ms l m) ≡ record { rules = insert list.rules p v; max = list.max }
    put_in v is =
        ap (λ R. record { rules = R; max = max }) (set_at ms p b l v m d at.bits at.len within is)
        ∙ ap (λ (x : RuleList). record { rules = insert x.rules p v; max = x.max }) at.view

    pub taken_out : Writes m None → seen (slice_set ms l m) ≡ record { rules = remove list.rules p; max = list.max }
    taken_out is =
        ap (λ R. record { rules = R; max = max }) (unset_at ms p b l m d at.bits at.len within is)
        ∙ ap (λ (x : RuleList). record { rules = remove x.rules p; max = x.max }) at.view

    pub same_list : m.entries ≡ (get_or ms l d).entries → seen (slice_set ms l m) ≡ list
    same_list is = ap (λ R. record { rules = R; max = max }) (keep_at ms l m d within is) ∙ at.view

    sound_put : (v k : ℕ) → IsNetwork (first + second) p → Writes m (Some v) → k ≡ len (insert (rules_of_lengths ms) p v)
        → IsSound first second (slice_set ms l m) k
    sound_put v k net is size =
        sound_at first second ms _ n k (insert (rules_of_lengths ms) p v) at.sound (length-set ms l m) (set_at ms p b l v m d at.bits at.len within is)
        (networks_insert _ _ p v net at.sound.networks) size

    pub sound_added : (v : ℕ) → IsNetwork (first + second) p → tree.get nat_cmp (get_or ms l d) b ≡ None → Writes m (Some v)
        → IsSound first second (slice_set ms l m) (n + 1)
    sound_added v net none is =
        sound_put v _ net is (ap (λ x. x + 1) at.sound.counted ∙ sym (size_added (rules_of_lengths ms) p v (sym kept_there ∙ none)))

    pub sound_replaced : (v old : ℕ) → IsNetwork (first + second) p → tree.get nat_cmp (get_or ms l d) b ≡ Some old → Writes m (Some v)
        → IsSound first second (slice_set ms l m) n
    sound_replaced v old net some is = sound_put v _ net is (at.sound.counted ∙ sym (size_replaced (rules_of_lengths ms) p v old (sym kept_there ∙ some)))

    pub sound_removed : (old : ℕ) → tree.get nat_cmp (get_or ms l d) b ≡ Some old → Writes m None
        → IsSound first second (slice_set ms l m) (n - 1)
    sound_removed old some is =
        let counted = at.sound.counted in
        let size = size_removed (rules_of_lengths ms) p old (sym kept_there ∙ some) in
        sound_at first second ms _ n _ (remove (rules_of_lengths ms) p) at.sound (length-set ms l m) (unset_at ms p b l m d at.bits at.len within is)
        (networks_remove _ _ p at.sound.networks) (omega (arith, counted, size))

    pub sound_kept : m.entries ≡ (get_or ms l d).entries → IsSound first second (slice_set ms l m) n
    sound_kept is = sound_at first second ms _ n _ (rules_of_lengths ms) at.sound (length-set ms l m) (keep_at ms l m d within is) at.sound.networks at.sound.counted

-- one more map is empty
pub emptied_more : (ms : List (BTreeMap ℕ ℕ)) (k : ℕ) (m : BTreeMap ℕ ℕ) → k < length ms → m.entries ≡ []
    → ((i : ℕ) (d : BTreeMap ℕ ℕ) → i < k → (get_or ms i d).entries ≡ [])
    → (i : ℕ) (d : BTreeMap ℕ ℕ) → i < k + 1 → (get_or (slice_set ms k m) i d).entries ≡ []
emptied_more ms k m h e before i d l = elim (cases_eq i k) [
  | inl same ↦ ap (λ x. (get_or (slice_set ms k m) x d).entries) same ∙ ap (λ (x : BTreeMap ℕ ℕ). x.entries) (get_or-set_same ms k m d h) ∙ e
  | inr other ↦ ap (λ (x : BTreeMap ℕ ℕ). x.entries) (get_or-set_other ms k i m d other) ∙ before i d (omega (arith, other, l))
]
