-- A new group behind the others, and the link to it.
use Rattle.std.proofs.Common.{arith, ◌≡◌, ℕ, ◌+◌, ◌-◌, ◌^◌, ◌<◌, ◌≤◌, inl, inr, ap, sym, ◌∙◌, List, ◌++◌, length, map, Option, Some, None, ◌*◌, ◌/◌, ◌%◌, refl, subst, ◌⊎◌, [], ◌∷◌, get_or}
use Rattle.std.specs.Prelude.{slice_get, option_map, replicate, slice_index, IsSome, max}
use Rattle.std.proofs.lemmas.Bool.{cases_lt}
use Rattle.std.proofs.lemmas.List.{get_or_append_left, get_or-append_right, get_or-replicate, length-replicate, length-append, length-map}
use Rattle.std.proofs.lemmas.Option.{same_Some, slice_get-map, slice_get-get_or, slice_get_within}
use Rattle.lpm_groups.specs.declared.GroupState.{GroupState}
use Rattle.lpm_groups.specs.declared.GroupState.TheVariants.{Free, Linked}
use Rattle.lpm_update.specs.BlockGroups.{group_at, IsLinkTo}
use Rattle.lpm_update.specs.GroupStates.{IsTied}
use Rattle.lpm_sweep.specs.SweepWords.{AreNumbered, IsSwept, Fills, IsFilling}
use Rattle.std.proofs.lemmas.Nat.{pow_pos, mod_below, shr_below, pow-add, shr_split, shr_high}
use Rattle.lpm_cells.specs.declared.entry.Entry.{Entry}
use Rattle.lpm_cells.specs.declared.entry.Entry.TheVariants.{Miss, Hop, Group}
use Rattle.lpm_cells.specs.Words.{IsLastWord, entry_in, word_of, group_in, IsFirst, last_entry, IsFirstWord, HasRoom, entry_at}
use Rattle.lpm_rules.specs.RuleMap.{RuleMap, network_cmp}
use Rattle.lpm_update.specs.Best.{IsBest}
use Rattle.lpm_update.specs.Represents.{Represents}
use Rattle.lpm_update.proofs.Places.{last_word, word_entry, first_of_group}
use Rattle.std.proofs.lemmas.Grind.{same_number_lists}
use Rattle.std.proofs.Math.Seq.{get_or-append_seam}
use Rattle.std.proofs.Math.Nat.{mul-le-mul_right}
use Rattle.lpm_rules.specs.Deep.{IsDeepBlock}
use Rattle.std.specs.FinMap.{empty, get-empty}
use Rattle.lpm_cells.proofs.ReadBack.{entry_in_zero}
use Rattle.lpm_rules.proofs.Views.{networks_empty, not_some}

-- Groups that are linked to the swept blocks, one after another, and free ones behind them.

block_is : (o : Option ℕ) (b : ℕ) → option_map Linked o ≡ Some (Linked b) → o ≡ Some b
block_is None b e = absurd cc
block_is (Some x) b e = let same : x ≡ b = cc in ap Some same

free_is : (b : ℕ) → Some Free ≡ Some (Linked b) → ⊥
free_is b e = cc

module _ (free : ℕ) (blocks : List ℕ) where
  abbrev linked : List GroupState
  linked = map Linked blocks

  abbrev states : List GroupState
  states = linked ++ replicate free Free

  count : length linked ≡ length blocks
  count = length-map blocks Linked

  size : length states ≡ length blocks + free
  size = length-append linked (replicate free Free) ∙ (ap (λ n. n + length (replicate free Free)) count ∙ ap (λ n. length blocks + n) (length-replicate free Free))

  at_front : (g : ℕ) → g < length blocks → slice_get states g ≡ slice_get linked g
  at_front g h =
      slice_get-get_or states g Free (omega (arith, h, size))
      ∙ (ap Some (get_or_append_left linked (replicate free Free) Free g (omega (arith, h, count))) ∙ sym (slice_get-get_or linked g Free (omega (arith, h, count))))

  at_back : (g : ℕ) → length blocks ≤ g → g < length states → slice_get states g ≡ Some Free
  at_back g l h =
      slice_get-get_or states g Free h
      ∙ ap Some (get_or-append_right linked (replicate free Free) (length blocks) g Free count l ∙ get_or-replicate free (g - length blocks) Free Free (omega (arith, l, h, size)))

  pub tied : (f : ℕ) (firsts : List ℕ) → length firsts ≡ 2 ^ f → AreNumbered firsts blocks → IsTied f states (group_at firsts)
  tied f firsts all numbered = record {
    linked = λ b g low e.
        let is = numbered.linked b g (omega (arith, low, all)) e in
        at_front g (slice_get_within blocks g b is) ∙ (slice_get-map Linked blocks g ∙ ap (option_map Linked) is);
    only = λ b g at. elim (cases_lt g (length blocks)) [
      | inl front ↦
          let is = numbered.only b g (block_is (slice_get blocks g) b (sym (slice_get-map Linked blocks g) ∙ (sym (at_front g front) ∙ at))) in
          let low = is.0 in
          (omega (arith, low, all), is.1)
      | inr back ↦ absurd (free_is b (sym (at_back g back (slice_get_within states g (Linked b) at)) ∙ at))
    ];
  }

-- More second words behind those of a table.

-- the room for a group's words grows
pub room_more : (s : ℕ) (S T : List ℕ) (e : Entry) → length S ≤ length T → IsFirst s S e → IsFirst s T e
room_more s S T Miss l h = tt
room_more s S T (Hop n d) l h = tt
room_more s S T (Group g) l h = omega (arith, l, h)

-- what a lookup reads in the groups that were there
pub followed_kept : (s : ℕ) (S T : List ℕ) (r : ℕ) (e : Entry) → r < 2 ^ s → ((k : ℕ) → k < length S → slice_index T k ≡ slice_index S k) → IsFirst s S e → last_entry s T r e ≡ last_entry s S r e
followed_kept s S T r Miss low kept h = refl
followed_kept s S T r (Hop n d) low kept h = refl
followed_kept s S T r (Group g) low kept h = ap entry_in (kept (g * 2 ^ s + r) (omega (arith, low, h)))

-- misses behind the words
pub room_grown : (f s more : ℕ) (R : RuleMap) (F S : List ℕ) → Represents f s R (record { firsts = F; seconds = S }) → Represents f s R (record { firsts = F; seconds = S ++ replicate more 0 })
room_grown f s more R F S represents =
    let T = S ++ replicate more 0 in
    let words = represents.table.words in
    let all = words.firsts_len in
    let long : length T ≡ length S + more = length-append S (replicate more 0) ∙ ap (λ n. length S + n) (length-replicate more 0) in
    let kept : (k : ℕ) → k < length S → slice_index T k ≡ slice_index S k = λ k h. get_or_append_left S (replicate more 0) 0 k h in
    record {
      table = record {
        words = record {
          firsts_len = all;
          first_words = λ i h. let old = words.first_words i h in (old.0, room_more s S T (entry_in (slice_index F i)) (omega (arith, long)) old.1);
          second_words = λ j h. elim (cases_lt j (length S)) [
            | inl low ↦ subst (IsLastWord (f + s)) (sym (kept j low)) (words.second_words j low)
            | inr high ↦ last_word (f + s) (slice_index T j) Miss tt tt (get_or-append_right S (replicate more 0) (length S) j 0 refl high ∙ get_or-replicate more (j - length S) 0 0 (omega (arith, high, h, long)))
          ];
        };
        linked_once = represents.table.linked_once;
      };
      networks = represents.networks;
      best = λ a h.
          let low = shr_below a f s h in
          subst (IsBest (f + s) R a) (sym (followed_kept s S T (a % 2 ^ s) (entry_in (slice_index F (a / 2 ^ s))) (mod_below a (2 ^ s) (pow_pos s)) kept (words.first_words (a / 2 ^ s) (omega (arith, low, all))).1))
          (represents.best a h);
      groups = represents.groups;
    }

pub last_length : (F : List ℕ) (x : ℕ) → length (F ++ x ∷ []) ≡ length F + 1
last_length F x = length-append F (x ∷ [])

-- one word is put last
pub put_last : (F G : List ℕ) (x n : ℕ) → length F ≡ n → length G ≡ max (length F) (n + 1) → Fills F G (λ _. x) → G ≡ F ++ x ∷ []
put_last F G x n at long fills =
    let size = last_length F x in
    same_number_lists G (F ++ x ∷ []) (omega (arith, long, at, size))
    (λ k h. elim (cases_lt k (length F)) [
      | inl low ↦ fills.kept k low ∙ sym (get_or_append_left F (x ∷ []) 0 k low)
      | inr high ↦
          let last : length F ≡ k = omega (arith, high, h, long, at) in
          fills.filled k high h ∙ sym (ap (slice_index (F ++ x ∷ [])) (sym last) ∙ get_or-append_seam F x [] 0)
    ])

no_room : (s n : ℕ) (S : List ℕ) → length S ≡ n * 2 ^ s → IsFirst s S (Group n) → ⊥
no_room s n S whole h = let pos = pow_pos s in absurd (omega (arith, whole, h, pos))

some_is : (g : ℕ) → IsSome (Some g)
some_is g = refl

-- a group begins to be filled, over the word of its block
pub starts : (f s n b : ℕ) (R : RuleMap) (F S : List ℕ) (v u : ℕ → ℕ) → b < 2 ^ f → length F ≡ b → ((k : ℕ) → u k ≡ v b) → IsSwept f s n R (record { firsts = F; seconds = S }) v
    → IsFilling f s b (length S) R R S u
starts f s n b R F S v u low at all swept = record {
  networks = swept.networks;
  done = λ r small l. absurd (omega (arith, l));
  todo = λ r small l.
      let a = b * 2 ^ s + r in
      let block : a / 2 ^ s ≡ b = shr_high b s r small in
      let up : (b + 1) * 2 ^ s ≤ 2 ^ f * 2 ^ s = mul-le-mul_right (2 ^ s) (omega (arith, low)) in
      let best = swept.todo a (omega (arith, small, up, pow-add 2 f s)) (omega (arith, block, at)) in
      subst (λ x. IsBest (f + s) R a (entry_in x)) (ap v block ∙ sym (all (length S + r))) best;
  stored = λ j from l. absurd (omega (arith, from, l));
  held = λ k _. subst (IsLastWord (f + s)) (sym (all k)) (swept.held b (omega (arith, at)));
  others = λ a e n best. best;
  kept = λ i d. d;
  no_other = λ i n d. d;
}

module _ (f s n b : ℕ) (R R' : RuleMap) (F S T : List ℕ) (v u : ℕ → ℕ) (link : ℕ)
    (low : b < 2 ^ f) (at : length F ≡ b) (small : n < 2 ^ 24) (word : link ≡ word_of (Group n))
    (long : length T ≡ length S + 2 ^ s) (kept : (k : ℕ) → k < length S → slice_index T k ≡ slice_index S k)
    (filling : IsFilling f s b (length S) R R' T u) (deep : IsDeepBlock f s R' b)
    (swept : IsSwept f s n R (record { firsts = F; seconds = S }) v) where
  abbrev pub linked_words : List ℕ
  linked_words = F ++ link ∷ []

  length_linked : length linked_words ≡ b + 1
  length_linked = last_length F link ∙ ap (λ x. x + 1) at

  before : (i : ℕ) → i < b → slice_index linked_words i ≡ slice_index F i
  before i h = get_or_append_left F (link ∷ []) 0 i (omega (arith, h, at))

  here : slice_index linked_words b ≡ link
  here = ap (slice_index linked_words) (sym at) ∙ get_or-append_seam F link [] 0

  reads : entry_in (slice_index linked_words b) ≡ Group n
  reads = ap entry_in here ∙ word_entry (f + s) link (Group n) small word

  room : length S ≡ n * 2 ^ s
  room = swept.room

  has_room : HasRoom s T n
  has_room = omega (arith, room, long)

  in_old : (i : ℕ) → i < b → i < length F
  in_old i h = omega (arith, h, at)

  entry_kept : (a : ℕ) → a / 2 ^ s < b → entry_at s (record { firsts = linked_words; seconds = T }) a ≡ entry_at s (record { firsts = F; seconds = S }) a
  entry_kept a h =
      ap (λ x. last_entry s T (a % 2 ^ s) (entry_in x)) (before (a / 2 ^ s) h)
      ∙ followed_kept s S T (a % 2 ^ s) (entry_in (slice_index F (a / 2 ^ s))) (mod_below a (2 ^ s) (pow_pos s)) kept (swept.first_words (a / 2 ^ s) (in_old (a / 2 ^ s) h)).1

  entry_new : (a : ℕ) → a / 2 ^ s ≡ b → entry_at s (record { firsts = linked_words; seconds = T }) a ≡ entry_in (slice_index T (length S + a % 2 ^ s))
  entry_new a e =
      ap (λ k. last_entry s T (a % 2 ^ s) (entry_in (slice_index linked_words k))) e
      ∙ (ap (last_entry s T (a % 2 ^ s)) reads ∙ ap (λ x. entry_in (slice_index T (x + a % 2 ^ s))) (sym room))

  last_or_before : (i : ℕ) → i < length linked_words → (i < b) ⊎ (i ≡ b)
  last_or_before i h = elim (cases_lt i b) [
    | inl below ↦ inl below
    | inr above ↦ inr (omega (arith, above, h, length_linked))
  ]

  old_link : (i g : ℕ) → i < b → IsLinkTo linked_words i g → IsLinkTo F i g
  old_link i g h z = ap entry_in (sym (before i h)) ∙ z

  apart : (i g : ℕ) → i < b → IsLinkTo linked_words i g → IsLinkTo linked_words b g → ⊥
  apart i g h y z =
      let is : Group n ≡ Group g = sym reads ∙ z in
      let same : n ≡ g = cc in
      let old : entry_in (slice_index F i) ≡ Group n = old_link i g h y ∙ ap Group (sym same) in
      no_room s n S room (subst (IsFirst s S) old (swept.first_words i (in_old i h)).1)

  pub swept_group : IsSwept f s (n + 1) R' (record { firsts = linked_words; seconds = T }) v
  swept_group = record {
    few = omega (arith, low, length_linked);
    room = omega (arith, room, long);
    networks = filling.networks;
    done = λ a h. elim (last_or_before (a / 2 ^ s) h) [
      | inl below ↦ subst (IsBest (f + s) R' a) (sym (entry_kept a below))
          (filling.others a (entry_at s (record { firsts = F; seconds = S }) a) (λ e. absurd (omega (arith, e, below))) (swept.done a (in_old (a / 2 ^ s) below)))
      | inr same ↦
          let r = mod_below a (2 ^ s) (pow_pos s) in
          let best = filling.done (a % 2 ^ s) r (omega (arith, r, long)) in
          let is : b * 2 ^ s + a % 2 ^ s ≡ a = ap (λ x. x * 2 ^ s + a % 2 ^ s) (sym same) ∙ shr_split a s in
          subst (IsBest (f + s) R' a) (sym (entry_new a same)) (subst (λ x. IsBest (f + s) R' x (entry_in (slice_index T (length S + a % 2 ^ s)))) is best)
    ];
    todo = λ a within h.
        filling.others a (entry_in (v (a / 2 ^ s))) (λ e. absurd (omega (arith, e, h, length_linked)))
        (swept.todo a within (omega (arith, h, length_linked, at)));
    first_words = λ i h. elim (last_or_before i h) [
      | inl below ↦
          let old = swept.first_words i (in_old i below) in
          subst (IsFirstWord (f + s) s T) (sym (before i below)) (old.0, room_more s S T (entry_in (slice_index F i)) (omega (arith, long)) old.1)
      | inr same ↦ subst (λ k. IsFirstWord (f + s) s T (slice_index linked_words k)) (sym same)
          (subst (IsFirstWord (f + s) s T) (sym here) (first_of_group (f + s) s T n link small has_room word))
    ];
    second_words = λ j h. elim (cases_lt j (length S)) [
      | inl below ↦ subst (IsLastWord (f + s)) (sym (kept j below)) (swept.second_words j below)
      | inr above ↦ filling.stored j above h
    ];
    held = λ k h. swept.held k (omega (arith, h, length_linked, at));
    linked_once = λ i j g h l y z. elim (last_or_before i h) [
      | inl low_i ↦ elim (last_or_before j l) [
        | inl low_j ↦ swept.linked_once i j g (in_old i low_i) (in_old j low_j) (old_link i g low_i y) (old_link j g low_j z)
        | inr same_j ↦ absurd (apart i g low_i y (subst (λ k. IsLinkTo linked_words k g) same_j z))
      ]
      | inr same_i ↦ elim (last_or_before j l) [
        | inl low_j ↦ absurd (apart j g low_j z (subst (λ k. IsLinkTo linked_words k g) same_i y))
        | inr same_j ↦ same_i ∙ sym same_j
      ]
    ];
    deep = λ i h. elim (last_or_before i h) [
      | inl below ↦
          let group : group_at linked_words i ≡ group_at F i = ap (λ x. group_in (entry_in x)) (before i below) in
          let old = swept.deep i (in_old i below) in (
            (λ some. filling.kept i (old.0 (subst IsSome group some))),
            (λ d. subst IsSome (sym group) (old.1 (filling.no_other i (λ e. absurd (omega (arith, e, below))) d))),
          )
      | inr same ↦ (
        (λ some. subst (IsDeepBlock f s R') (sym same) deep),
        (λ d. subst (λ k. IsSome (group_at linked_words k)) (sym same) (subst IsSome (sym (ap group_in reads)) (some_is n))),
      )
    ];
    shallow = λ i h d. swept.shallow i (omega (arith, h, length_linked, at)) (filling.no_other i (λ e. absurd (omega (arith, e, h, length_linked))) d);
  }

-- a block more has a group, of the next number
pub numbered_group : (f b n link : ℕ) (F blocks : List ℕ) → length F ≡ b → length blocks ≡ n → entry_in link ≡ Group n → AreNumbered F blocks → AreNumbered (F ++ link ∷ []) (blocks ++ b ∷ [])
numbered_group f b n link F blocks at count is numbered =
    let long : length (F ++ link ∷ []) ≡ b + 1 = last_length F link ∙ ap (λ x. x + 1) at in
    let here : slice_index (F ++ link ∷ []) b ≡ link = ap (slice_index (F ++ link ∷ [])) (sym at) ∙ get_or-append_seam F link [] 0 in
    let group : group_at (F ++ link ∷ []) b ≡ Some n = ap (λ x. group_in (entry_in x)) here ∙ ap group_in is in
    let size : length (blocks ++ b ∷ []) ≡ n + 1 = last_length blocks b ∙ ap (λ x. x + 1) count in
    let last : slice_get (blocks ++ b ∷ []) n ≡ Some b =
    slice_get-get_or (blocks ++ b ∷ []) n 0 (omega (arith, size))
    ∙ ap Some (ap (λ k. get_or (blocks ++ b ∷ []) k 0) (sym count) ∙ get_or-append_seam blocks b [] 0) in
    let kept : (g : ℕ) → g < n → slice_get (blocks ++ b ∷ []) g ≡ slice_get blocks g = λ g h.
    slice_get-get_or (blocks ++ b ∷ []) g 0 (omega (arith, h, size))
    ∙ (ap Some (get_or_append_left blocks (b ∷ []) 0 g (omega (arith, h, count))) ∙ sym (slice_get-get_or blocks g 0 (omega (arith, h, count)))) in
    let same : (c : ℕ) → c < b → group_at (F ++ link ∷ []) c ≡ group_at F c = λ c h.
    ap (λ x. group_in (entry_in x)) (get_or_append_left F (link ∷ []) 0 c (omega (arith, h, at))) in
    record {
      linked = λ c g h e. elim (cases_lt c b) [
        | inl low ↦
            let old = numbered.linked c g (omega (arith, low, at)) (sym (same c low) ∙ e) in
            let small = slice_get_within blocks g c old in
            kept g (omega (arith, small, count)) ∙ old
        | inr high ↦
            let this : b ≡ c = omega (arith, high, h, long) in
            let number : n ≡ g = same_Some n g (sym group ∙ (ap (group_at (F ++ link ∷ [])) this ∙ e)) in
            ap (slice_get (blocks ++ b ∷ [])) (sym number) ∙ (last ∙ ap Some this)
      ];
      only = λ c g e.
          let within = slice_get_within (blocks ++ b ∷ []) g c e in
          elim (cases_lt g n) [
            | inl low ↦
                let old = numbered.only c g (sym (kept g low) ∙ e) in
                let below = old.0 in
                (omega (arith, below, long, at), same c (omega (arith, below, at)) ∙ old.1)
            | inr high ↦
                let number : n ≡ g = omega (arith, high, within, size) in
                let this : b ≡ c = same_Some b c (sym last ∙ (ap (slice_get (blocks ++ b ∷ [])) number ∙ e)) in
                (omega (arith, this, long), ap (group_at (F ++ link ∷ [])) (sym this) ∙ (group ∙ ap Some number))
          ];
    }

-- The sweep's beginning and its end.

pub swept_none : (f s : ℕ) (w : ℕ → ℕ) → ((k : ℕ) → w k ≡ 0) → IsSwept f s 0 empty (record { firsts = []; seconds = [] }) w
swept_none f s w zeros = record {
  few = omega arith;
  room = omega arith;
  networks = networks_empty (f + s);
  done = λ a h. absurd (omega (arith, h));
  todo = λ a small h.
      let miss : entry_in (w (a / 2 ^ s)) ≡ Miss = ap entry_in (zeros (a / 2 ^ s)) ∙ entry_in_zero in
      subst (IsBest (f + s) empty a) (sym miss) (λ q some c. not_some (get-empty network_cmp q) some);
  first_words = λ i h. absurd (omega (arith, h));
  second_words = λ i h. absurd (omega (arith, h));
  held = λ k h. last_word (f + s) (w k) Miss tt tt (zeros k);
  linked_once = λ i j g h l y z. absurd (omega (arith, h));
  deep = λ i h. absurd (omega (arith, h));
  shallow = λ i h d. not_some (get-empty network_cmp d.0) d.1;
}

pub swept_all : (f s n : ℕ) (R : RuleMap) (F S : List ℕ) (w : ℕ → ℕ) → length F ≡ 2 ^ f → IsSwept f s n R (record { firsts = F; seconds = S }) w → Represents f s R (record { firsts = F; seconds = S })
swept_all f s n R F S w all swept = record {
  table = record {
    words = record {
      firsts_len = all;
      first_words = swept.first_words;
      second_words = swept.second_words;
    };
    linked_once = λ i j g h l y z. swept.linked_once i j g (omega (arith, h, all)) (omega (arith, l, all)) y z;
  };
  networks = swept.networks;
  best = λ a h. let low = shr_below a f s h in swept.done a (omega (arith, low, all));
  groups = λ i h. swept.deep i (omega (arith, h, all));
}

pub numbered_none : AreNumbered [] []
numbered_none = record { linked = λ b g h e. absurd (omega (arith, h)); only = λ b g e. let h = slice_get_within [] g b e in absurd (omega (arith, h)) }
