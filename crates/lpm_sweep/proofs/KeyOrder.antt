-- Rules that are sorted by keys are in order, and are the same rules.
use Rattle.std.proofs.Common.{arith, ◌≡◌, ◌≢◌, ℕ, zero, suc, ◌%◌, ◌^◌, ◌<◌, ◌≤◌, ◌⊎◌, inl, inr, refl, ap, sym, ◌∙◌, subst, List, [], ◌∷◌, ◌++◌, ◌+◌, map, length, add-one, get_or, take, below_more, length-append, Some, None}
use Rattle.std.specs.Prelude.{slice_index, slice_get}
use Rattle.std.specs.List.{All}
use Rattle.std.specs.List.Sorted.{IsPermutation, IsNonDecreasing}
use Rattle.std.specs.FinMap.{get, insert, get-empty, same_map}
use Rattle.std.proofs.lemmas.Bool.{cases_lt, cases_eq}
use Rattle.std.proofs.lemmas.List.{get_or-map, get_or_append_left, get_or_at, length-map, map-append, take_all, get_or_default}
use Rattle.std.proofs.lemmas.List.Elements.{All-get_or, All-from_get_or, Contains-get_or}
use Rattle.std.proofs.lemmas.List.Sorted.{All-permutation, Contains-permutation, length_permutation}
use Rattle.std.proofs.lemmas.Option.{slice_get-get_or}
use Rattle.lpm_bits.specs.Network.{Network}
use Rattle.lpm_rules.specs.RuleMap.{RuleMap, network_cmp, AreInOrder, place, prefix_at, rules_of}
use Rattle.lpm_rules.specs.declared.Rule.{Rule}
use Rattle.lpm_rules.proofs.Views.{insert_cases, insert_here, networks_total, exact_networks, prefix_read, rules_more}
use Rattle.lpm_sweep.specs.ListOrder.{AreReordered}
use Rattle.lpm_sweep.specs.Keys.{AreKeys, key_at}

-- the next hop of the rule at a place of the list
abbrev pub hop_at : {f s : ℕ} → List (Rule f s) → ℕ → ℕ
hop_at {f} {s} rs k = slice_index (map (λ (r : Rule f s). r.hop) rs) k

-- the rules ys are those of xs that the first n keys name
pub record AreTaken {f s : ℕ} (xs : List (Rule f s)) (ks : List ℕ) (ys : List (Rule f s)) (n : ℕ) : Type 0 where
  pub all : length ys ≡ n
  pub prefixes : (k : ℕ) → k < n → prefix_at ys k ≡ prefix_at xs (slice_index ks k % 2 ^ 26)
  pub hops : (k : ℕ) → k < n → hop_at ys k ≡ hop_at xs (slice_index ks k % 2 ^ 26)

same_network : (p q : Network) → p.bits ≡ q.bits → p.len ≡ q.len → p ≡ q
same_network p q bits len i = record { bits = bits i; len = len i }

cases_network : (p q : Network) → (p ≡ q) ⊎ (p ≢ q)
cases_network p q = elim (cases_eq p.bits q.bits) [
  | inr other ↦ inr (λ e. other (ap (λ (x : Network). x.bits) e))
  | inl bits ↦ elim (cases_eq p.len q.len) [
    | inr other ↦ inr (λ e. other (ap (λ (x : Network). x.len) e))
    | inl len ↦ inl (same_network p q bits len)
  ]
]

pub hop_read : {f s : ℕ} (rs : List (Rule f s)) (k : ℕ) (r : Rule f s) → k < length rs → r ≡ get_or rs k r → hop_at rs k ≡ r.hop
hop_read {f} {s} rs k r h e = get_or-map (λ (x : Rule f s). x.hop) rs k r 0 h ∙ ap (λ (x : Rule f s). x.hop) (sym e)

-- what stands before the last place is what stood there
read_before : {X Y : Type 0} (g : X → Y) (d : Y) (ys zs : List X) (r : X) (k : ℕ) → zs ≡ ys ++ (r ∷ []) → k < length ys → get_or (map g zs) k d ≡ get_or (map g ys) k d
read_before g d ys zs r k more h =
    ap (λ l. get_or (map g l) k d) more
    ∙ (ap (λ l. get_or l k d) (map-append g ys (r ∷ [])) ∙ get_or_append_left (map g ys) _ d k (omega (arith, h, length-map ys g)))

-- one more, which the next key names
pub taken_more : {f s : ℕ} (xs : List (Rule f s)) (ks : List ℕ) (ys zs : List (Rule f s)) (n : ℕ) (r : Rule f s)
    → AreTaken xs ks ys n → slice_index ks n % 2 ^ 26 < length xs → r ≡ get_or xs (slice_index ks n % 2 ^ 26) r
    → zs ≡ ys ++ (r ∷ []) → AreTaken xs ks zs (n + 1)
taken_more {f} {s} xs ks ys zs n r taken named is more =
    let all : length zs ≡ n + 1 = omega (arith, ap length more, length-append ys (r ∷ []), taken.all) in
    let last : n < length zs = omega (arith, all) in
    let here : r ≡ get_or zs n r = sym (ap (λ l. get_or l n r) more ∙ get_or_at ys r [] r n taken.all) in
    record {
      all = all;
      prefixes = below_more _ n
          (λ k h. read_before (λ (x : Rule f s). x.prefix) (record { bits = 0; len = 0 }) ys zs r k more (omega (arith, h, taken.all)) ∙ taken.prefixes k h)
          (prefix_read zs n r last here ∙ sym (prefix_read xs _ r named is));
      hops = below_more _ n
          (λ k h. read_before (λ (x : Rule f s). x.hop) 0 ys zs r k more (omega (arith, h, taken.all)) ∙ taken.hops k h)
          (hop_read zs n r last here ∙ sym (hop_read xs _ r named is));
    }

-- of the first m rules none has this prefix
record HasNone {f s : ℕ} (rs : List (Rule f s)) (p : Network) (m : ℕ) : Type 0 where
  none : (i : ℕ) → i < m → prefix_at rs i ≢ p
  gets : get (rules_of (take m rs)) p ≡ None

-- or rule i is the last of them that has it
record HasLast {f s : ℕ} (rs : List (Rule f s)) (p : Network) (m i : ℕ) : Type 0 where
  below : i < m
  here : prefix_at rs i ≡ p
  last : (j : ℕ) → i < j → j < m → prefix_at rs j ≢ p
  gets : get (rules_of (take m rs)) p ≡ Some (hop_at rs i)

some_rule : {f s : ℕ} (rs : List (Rule f s)) (m : ℕ) → m < length rs → (r : Rule f s) × (r ≡ get_or rs m r)
some_rule [] m h = absurd (omega (arith, h))
some_rule (x ∷ rs) zero h = (x, refl)
some_rule (x ∷ rs) (suc m) h = let z = some_rule rs m (omega (arith, h)) in (z.0, z.1)

found : {f s : ℕ} (rs : List (Rule f s)) (p : Network) (m : ℕ) → m ≤ length rs → HasNone rs p m ⊎ ((i : ℕ) × HasLast rs p m i)
found rs p zero h = inl (record { none = λ i l. absurd (omega (arith, l)); gets = get-empty network_cmp p })
found {f} {s} rs p (suc m) h =
    let within : m < length rs = omega (arith, h) in
    let rule = some_rule rs m within in
    let r : Rule f s = rule.0 in
    let read : prefix_at rs m ≡ r.prefix = prefix_read rs m r within rule.1 in
    let hop : hop_at rs m ≡ r.hop = hop_read rs m r within rule.1 in
    let R = rules_of (take m rs) in
    let more : rules_of (take (suc m) rs) ≡ insert R r.prefix r.hop = ap (λ k. rules_of (take k rs)) (sym (add-one m)) ∙ rules_more rs m r within rule.1 in
    elim (cases_network r.prefix p) [
      | inl this ↦ inr (
        m,
        record {
          below = omega arith;
          here = read ∙ this;
          last = λ j l k. absurd (omega (arith, l, k));
          gets = ap (λ (x : RuleMap). get x p) more ∙ (ap (get (insert R r.prefix r.hop)) (sym this) ∙ (insert_here R r.prefix r.hop ∙ ap Some (sym hop)));
        },
      )
      | inr other ↦
          let kept : get (rules_of (take (suc m) rs)) p ≡ get R p = ap (λ (x : RuleMap). get x p) more ∙ elim (insert_cases R r.prefix r.hop p) [
            | inl same ↦ absurd (other (sym same.0))
            | inr old ↦ old
          ] in
          elim (found rs p m (omega (arith, h))) [
            | inl none ↦ inl (record {
              none = λ i l. elim (cases_eq i m) [
                | inl this ↦ λ e. other (sym read ∙ (ap (prefix_at rs) (sym this) ∙ e))
                | inr before ↦ none.none i (omega (arith, l, before))
              ];
              gets = kept ∙ none.gets;
            })
            | inr last ↦
                let low = last.1.below in
                inr (
                  last.0,
                  record {
                    below = omega (arith, low);
                    here = last.1.here;
                    last = λ j l k. elim (cases_eq j m) [
                      | inl this ↦ λ e. other (sym read ∙ (ap (prefix_at rs) (sym this) ∙ e))
                      | inr before ↦ last.1.last j l (omega (arith, k, before))
                    ];
                    gets = kept ∙ last.1.gets;
                  },
                )
          ]
    ]

module _ {f s : ℕ} (xs : List (Rule f s)) (keys ks : List ℕ) (few : length xs ≤ 2 ^ 26)
    (are : AreKeys xs keys) (moved : IsPermutation keys ks) where
  abbrev pub IsKey : ℕ → Type 0
  IsKey x = (i : ℕ) × (i < length xs) × (x ≡ key_at xs i)

  pub count_keys : length ks ≡ length xs
  count_keys = length_permutation keys ks moved ∙ are.all

  each_key : All IsKey ks
  each_key = All-permutation IsKey keys ks moved (All-from_get_or IsKey keys 0 (λ i h.
      let low : i < length xs = subst (λ n. i < n) are.all h in (i, low, are.each i low)))

  -- the rule that stands at this place
  abbrev pub index : ℕ → ℕ
  index k = slice_index ks k % 2 ^ 26

  pub names_of : (k : ℕ) → k < length xs → (index k < length xs) × (slice_index ks k ≡ key_at xs (index k))
  names_of k h =
      let key = All-get_or IsKey ks k 0 (omega (arith, h, count_keys)) each_key in
      let low = key.1 in
      let is = key.2 in
      let same : index k ≡ key.0 = omega (arith, low, is, few) in
      (omega (arith, same, low), is ∙ ap (key_at xs) (sym same))

  -- where a rule went
  pub went_of : (i : ℕ) → i < length xs → (k : ℕ) × (k < length xs) × (index k ≡ i)
  went_of i h =
      let low : i < length keys = omega (arith, h, are.all) in
      let at = Contains-permutation keys ks (get_or keys i 0) moved (Contains-get_or keys i 0 low) in
      let k = at.0 in
      let within = at.1 in
      let is : slice_index ks k ≡ key_at xs i = get_or_default ks k 0 (get_or keys i 0) within ∙ (at.2 ∙ are.each i h) in
      (k, (omega (arith, within, count_keys)), omega (arith, is, h, few))

module _ {f s : ℕ} (xs : List (Rule f s)) (keys ks : List ℕ) (ys : List (Rule f s)) (few : length xs ≤ 2 ^ 26)
    (are : AreKeys xs keys) (moved : IsPermutation keys ks) (rising : IsNonDecreasing ks) (taken : AreTaken xs ks ys (length ks)) where
  abbrev pub at : ℕ → ℕ
  at k = slice_index ks k % 2 ^ 26

  keys_count : length ks ≡ length xs
  keys_count = count_keys xs keys ks few are moved

  names : (k : ℕ) → k < length xs → (at k < length xs) × (slice_index ks k ≡ key_at xs (at k))
  names = names_of xs keys ks few are moved

  went : (i : ℕ) → i < length xs → (k : ℕ) × (k < length xs) × (at k ≡ i)
  went = went_of xs keys ks few are moved

  count : length ys ≡ length xs
  count = taken.all ∙ keys_count

  prefix_of : (k : ℕ) → k < length xs → prefix_at ys k ≡ prefix_at xs (at k)
  prefix_of k h = taken.prefixes k (omega (arith, h, keys_count))

  hop_of : (k : ℕ) → k < length xs → hop_at ys k ≡ hop_at xs (at k)
  hop_of k h = taken.hops k (omega (arith, h, keys_count))

  pub sorted_order : AreInOrder ys
  sorted_order j k l h =
      let high : k < length xs = omega (arith, h, count) in
      let low : j < length xs = omega (arith, l, high) in
      let up = rising j k 0 l (omega (arith, high, keys_count)) in
      let kj = (names j low).1 in
      let kk = (names k high).1 in
      let bj = (names j low).0 in
      let bk = (names k high).0 in
      let z : place (prefix_at xs (at j)) ≤ place (prefix_at xs (at k)) = omega (arith, up, kj, kk, bj, bk, few) in
      subst (λ p. p ≤ place (prefix_at ys k)) (sym (ap place (prefix_of j low))) (subst (λ q. place (prefix_at xs (at j)) ≤ q) (sym (ap place (prefix_of k high))) z)

  -- a later rule of the same prefix went further
  later : (k m : ℕ) → k < length xs → m < length xs → prefix_at xs (at k) ≡ prefix_at xs (at m) → at k < at m → k < m
  later k m hk hm same l = elim (cases_lt k m) [
    | inl before ↦ before
    | inr after ↦
        let up = rising m k 0 after (omega (arith, hk, keys_count)) in
        let kk = (names k hk).1 in
        let km = (names m hm).1 in
        let e = ap place same in
        absurd (omega (arith, up, kk, km, e, l))
  ]

  -- each prefix has the same rule
  same_rule : (p : Network) → (HasNone ys p (length xs) ⊎ ((k : ℕ) × HasLast ys p (length xs) k)) → (HasNone xs p (length xs) ⊎ ((i : ℕ) × HasLast xs p (length xs) i))
      → get (rules_of (take (length xs) ys)) p ≡ get (rules_of (take (length xs) xs)) p
  same_rule p (inl none) (inl nil) = none.gets ∙ sym nil.gets
  same_rule p (inl none) (inr old) =
      let gone = went old.0 old.1.below in
      absurd (none.none gone.0 gone.1 (prefix_of gone.0 gone.1 ∙ (ap (prefix_at xs) gone.2 ∙ old.1.here)))
  same_rule p (inr new) (inl nil) =
      absurd (nil.none (at new.0) (names new.0 new.1.below).0 (sym (prefix_of new.0 new.1.below) ∙ new.1.here))
  same_rule p (inr new) (inr old) =
      let k = new.0 in
      let i = old.0 in
      let low = new.1.below in
      let gone = went i old.1.below in
      let of_new : prefix_at xs (at k) ≡ p = sym (prefix_of k low) ∙ new.1.here in
      let of_old : prefix_at xs (at gone.0) ≡ p = ap (prefix_at xs) gone.2 ∙ old.1.here in
      let same : at k ≡ i = elim (cases_lt (at k) i) [
        | inl before ↦
            let e = gone.2 in
            let further = later k gone.0 low gone.1 (of_new ∙ sym of_old) (omega (arith, before, e)) in
            absurd (new.1.last gone.0 further gone.1 (prefix_of gone.0 gone.1 ∙ of_old))
        | inr after ↦ elim (cases_lt i (at k)) [
          | inl behind ↦ absurd (old.1.last (at k) behind (names k low).0 of_new)
          | inr here ↦ omega (arith, after, here)
        ]
      ] in
      new.1.gets ∙ (ap Some (hop_of k low ∙ ap (hop_at xs) same) ∙ sym old.1.gets)

  pub sorted_same : rules_of ys ≡ rules_of xs
  sorted_same =
      let all_ys : take (length xs) ys ≡ ys = take_all (length xs) ys (omega (arith, count)) in
      let all_xs : take (length xs) xs ≡ xs = take_all (length xs) xs (omega arith) in
      same_map networks_total exact_networks (rules_of ys) (rules_of xs) (λ p.
      ap (λ (l : List (Rule f s)). get (rules_of l) p) (sym all_ys)
      ∙ (same_rule p (found ys p (length xs) (omega (arith, count))) (found xs p (length xs) (omega arith))
      ∙ ap (λ (l : List (Rule f s)). get (rules_of l) p) all_xs))

  -- the rule that stands at a place
  rule_at : (k : ℕ) → k < length xs → slice_get ys k ≡ slice_get xs (at k)
  rule_at k h =
      let low = (names k h).0 in
      let new = some_rule ys k (omega (arith, h, count)) in
      let old = some_rule xs (at k) low in
      let prefix : new.0.prefix ≡ old.0.prefix = sym (prefix_read ys k new.0 (omega (arith, h, count)) new.1) ∙ (prefix_of k h ∙ prefix_read xs (at k) old.0 low old.1) in
      let hop : new.0.hop ≡ old.0.hop = sym (hop_read ys k new.0 (omega (arith, h, count)) new.1) ∙ (hop_of k h ∙ hop_read xs (at k) old.0 low old.1) in
      let same : new.0 ≡ old.0 = λ i. record { prefix = prefix i; hop = hop i } in
      slice_get-get_or ys k new.0 (omega (arith, h, count))
      ∙ (ap Some (sym new.1 ∙ (same ∙ old.1)) ∙ sym (slice_get-get_or xs (at k) old.0 low))

  pub reordered : AreReordered xs ys
  reordered = record {
    count = count;
    from = at;
    same = λ k h. rule_at k (omega (arith, h, count));
    all = λ i h. let gone = went i h in let low = gone.1 in (gone.0, (omega (arith, low, count)), gone.2);
    stable = λ j k hj hk e l.
        let low : j < length xs = omega (arith, hj, count) in
        let high : k < length xs = omega (arith, hk, count) in
        later j k low high (sym (prefix_of j low) ∙ (e ∙ prefix_of k high)) l;
  }
