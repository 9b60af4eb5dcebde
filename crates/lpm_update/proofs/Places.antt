use Rattle.std.proofs.Common.{arith, ◌≡◌, ◌≢◌, ℕ, ◌+◌, ◌-◌, ◌*◌, ◌/◌, ◌%◌, ◌^◌, ◌<◌, ◌≤◌, ◌⊎◌, inl, inr, true, false, cond, length, suc, refl, ap, sym, ◌∙◌, subst, List}
use Rattle.std.specs.Prelude.{slice_index, slice_set}
use Rattle.std.proofs.lemmas.List.{get_or-set_same, get_or-set_other}
use Rattle.std.proofs.lemmas.Nat.{pow_pos, mod_below, shr_high, shr_split, same_from_place, pow-add}
use Rattle.std.proofs.lemmas.Bool.{cases_lt, cases_eq}
use Rattle.lpm_cells.specs.declared.entry.Entry.{Entry}
use Rattle.lpm_cells.specs.declared.entry.Entry.TheVariants.{Miss, Hop, Group}
use Rattle.lpm_cells.specs.Words.{IsEntry, word_of, entry_in, IsLast, IsLastWord, IsWord, Words, IsWords, IsFirst, IsFirstWord, HasRoom, entry_at, last_entry, with_first, with_second}
use Rattle.lpm_update.specs.Rewrite.{replaces, rewritten_entry, Stands, Skips}
use Rattle.lpm_update.specs.Kinds.{IsWhole, IsRewriting, IsRangeOf}
use Rattle.lpm_update.specs.BlockGroups.{IsTable, IsLinkTo}
use Rattle.std.proofs.Math.ListN.{length-set}
use Rattle.lpm_cells.proofs.ReadBack.{entry_in-word_of}
use Rattle.std.proofs.Math.Nat.{mul-le-mul_right, mul_assoc}
use Rattle.lpm_update.specs.declared.rewrite.Rewrite.{Rewrite}
use Rattle.lpm_bits.specs.Network.{Network, IsNetwork}

-- ---- addresses and blocks

pub block_low : (s a : ℕ) → a / 2 ^ s * 2 ^ s ≤ a
block_low s a = omega (arith, shr_split a s)

pub block_high : (s a : ℕ) → a < a / 2 ^ s * 2 ^ s + 2 ^ s
block_high s a = let m = mod_below a (2 ^ s) (pow_pos s) in omega (arith, shr_split a s, m)

pub block_of : (s a i : ℕ) → i * 2 ^ s ≤ a → a < i * 2 ^ s + 2 ^ s → a / 2 ^ s ≡ i
block_of s a i l h =
    let r : a ≡ i * 2 ^ s + (a - i * 2 ^ s) = omega arith in
    ap (λ x. x / 2 ^ s) r ∙ shr_high i s (a - i * 2 ^ s) (omega arith)

-- ---- one write

pub followed_last : (s : ℕ) (S : List ℕ) (r : ℕ) (e : Entry) → IsLast e → last_entry s S r e ≡ e
followed_last s S r Miss h = refl
followed_last s S r (Hop n d) h = refl
followed_last s S r (Group g) h = absurd h

pub first_same : (s : ℕ) (W : Words) (i w a : ℕ) → i < length W.firsts → a / 2 ^ s ≡ i → IsLast (entry_in w) → entry_at s (with_first W i w) a ≡ entry_in w
first_same s W i w a h e l =
    ap (λ k. last_entry s W.seconds (a % 2 ^ s) (entry_in (slice_index (slice_set W.firsts i w) k))) e
    ∙ ap (λ x. last_entry s W.seconds (a % 2 ^ s) (entry_in x)) (get_or-set_same W.firsts i w 0 h)
    ∙ followed_last s W.seconds (a % 2 ^ s) (entry_in w) l

pub first_other : (s : ℕ) (W : Words) (i w a : ℕ) → a / 2 ^ s ≢ i → entry_at s (with_first W i w) a ≡ entry_at s W a
first_other s W i w a n = ap (λ x. last_entry s W.seconds (a % 2 ^ s) (entry_in x)) (get_or-set_other W.firsts i (a / 2 ^ s) w 0 n)

pub second_same : (s : ℕ) (W : Words) (g j w a : ℕ) → entry_in (slice_index W.firsts (a / 2 ^ s)) ≡ Group g → j ≡ g * 2 ^ s + a % 2 ^ s → j < length W.seconds
    → entry_at s (with_second W j w) a ≡ entry_in w
second_same s W g j w a e p h =
    ap (last_entry s (slice_set W.seconds j w) (a % 2 ^ s)) e
    ∙ ap (λ k. entry_in (slice_index (slice_set W.seconds j w) k)) (sym p)
    ∙ ap entry_in (get_or-set_same W.seconds j w 0 h)

pub in_group : (s : ℕ) (W : Words) (g a : ℕ) → entry_in (slice_index W.firsts (a / 2 ^ s)) ≡ Group g → entry_at s W a ≡ entry_in (slice_index W.seconds (g * 2 ^ s + a % 2 ^ s))
in_group s W g a e = ap (last_entry s W.seconds (a % 2 ^ s)) e

followed_other : (s : ℕ) (S : List ℕ) (r j w : ℕ) (e : Entry) → ((g : ℕ) → e ≡ Group g → g * 2 ^ s + r ≡ j → ⊥) → last_entry s (slice_set S j w) r e ≡ last_entry s S r e
followed_other s S r j w Miss n = refl
followed_other s S r j w (Hop m d) n = refl
followed_other s S r j w (Group g) n = ap entry_in (get_or-set_other S j (g * 2 ^ s + r) w 0 (n g refl))

pub second_other : (s : ℕ) (W : Words) (j w a : ℕ) → ((g : ℕ) → entry_in (slice_index W.firsts (a / 2 ^ s)) ≡ Group g → g * 2 ^ s + a % 2 ^ s ≡ j → ⊥)
    → entry_at s (with_second W j w) a ≡ entry_at s W a
second_other s W j w a n = followed_other s W.seconds (a % 2 ^ s) j w (entry_in (slice_index W.firsts (a / 2 ^ s))) n

-- ---- an update that goes on

pub changed_taken : (c : Rewrite) (e : Entry) → replaces c e ≡ true → rewritten_entry c e ≡ c.entry
changed_taken c e h = ap (λ b. cond b c.entry e) h

pub changed_kept : (c : Rewrite) (e : Entry) → replaces c e ≡ false → rewritten_entry c e ≡ e
changed_kept c e h = ap (λ b. cond b c.entry e) h

-- over addresses that keep their entries
pub stands_skip : (s from at next : ℕ) (c : Rewrite) (W : Words) (E : ℕ → Entry) → at ≤ next → Skips s c W at next → Stands s from at c W E → Stands s from next c W E
stands_skip s from at next c W E l k t = record {
  before = t.before;
  done = λ a p q. elim (cases_lt a at) [
    | inl h ↦ t.done a p h
    | inr h ↦ t.todo a h ∙ sym (ap (rewritten_entry c) (sym (t.todo a h)) ∙ changed_kept c _ (k a h q) ∙ t.todo a h)
  ];
  todo = λ a p. t.todo a (omega arith);
}

-- a store in the first table
pub stands_first : (s from at : ℕ) (c : Rewrite) (W : Words) (E : ℕ → Entry) (i w : ℕ) → from ≤ at → at ≡ i * 2 ^ s → i < length W.firsts
    → IsLast (entry_in (slice_index W.firsts i)) → replaces c (entry_in (slice_index W.firsts i)) ≡ true → entry_in w ≡ c.entry → IsLast c.entry
    → Stands s from at c W E → Stands s from (i * 2 ^ s + 2 ^ s) c (with_first W i w) E
stands_first s from at c W E i w o e h l k r m t =
    let other : (a : ℕ) → (a < i * 2 ^ s) ⊎ (i * 2 ^ s + 2 ^ s ≤ a) → entry_at s (with_first W i w) a ≡ entry_at s W a = λ a d.
    first_other s W i w a (λ q. elim d [
      | inl below ↦ absurd (omega (arith, below, block_low s a, ap (λ x. x * 2 ^ s) q))
      | inr above ↦ absurd (omega (arith, above, block_high s a, ap (λ x. x * 2 ^ s) q))
    ]) in
    record {
      before = λ a p. other a (inl (omega arith)) ∙ t.before a p;
      done = λ a p q. elim (cases_lt a (i * 2 ^ s)) [
        | inl below ↦ other a (inl below) ∙ t.done a p (omega (arith, below, e))
        | inr above ↦
            let here = block_of s a i above q in
            let was : entry_at s W a ≡ entry_in (slice_index W.firsts i) =
            ap (λ x. last_entry s W.seconds (a % 2 ^ s) (entry_in (slice_index W.firsts x))) here ∙ followed_last s W.seconds (a % 2 ^ s) _ l in
            let is : E a ≡ entry_in (slice_index W.firsts i) = sym (t.todo a (omega (arith, e, above))) ∙ was in
            first_same s W i w a h here (subst IsLast (sym r) m) ∙ r ∙ sym (changed_taken c (E a) (ap (replaces c) is ∙ k))
      ];
      todo = λ a p. other a (inr p) ∙ t.todo a (omega (arith, e, p));
    }

-- a store in a group that one block has
pub stands_second : (s from at : ℕ) (c : Rewrite) (W : Words) (E : ℕ → Entry) (g j w : ℕ) → from ≤ at
    → entry_in (slice_index W.firsts (at / 2 ^ s)) ≡ Group g → j ≡ g * 2 ^ s + at % 2 ^ s → j < length W.seconds
    → ((a : ℕ) → entry_in (slice_index W.firsts (a / 2 ^ s)) ≡ Group g → a / 2 ^ s ≡ at / 2 ^ s)
    → replaces c (entry_in (slice_index W.seconds j)) ≡ true → entry_in w ≡ c.entry
    → Stands s from at c W E → Stands s from (at + 1) c (with_second W j w) E
stands_second s from at c W E g j w o e p h once k r t =
    let other : (a : ℕ) → a ≢ at → entry_at s (with_second W j w) a ≡ entry_at s W a = λ a n.
    second_other s W j w a (λ f q z.
    let both = same_from_place f (a % 2 ^ s) g (at % 2 ^ s) (2 ^ s) (mod_below a (2 ^ s) (pow_pos s)) (mod_below at (2 ^ s) (pow_pos s)) (z ∙ p) in
    let same = once a (q ∙ ap Group both.0) in
    n (sym (shr_split a s) ∙ ap (λ x. x * 2 ^ s + a % 2 ^ s) same ∙ ap (λ x. at / 2 ^ s * 2 ^ s + x) both.1 ∙ shr_split at s)) in
    record {
      before = λ a q. other a (λ z. absurd (omega (arith, z, q, o))) ∙ t.before a q;
      done = λ a q l. elim (cases_lt a at) [
        | inl below ↦ other a (λ z. absurd (omega (arith, z, below))) ∙ t.done a q below
        | inr above ↦
            let z : a ≡ at = omega (arith, above, l) in
            subst (λ x. entry_at s (with_second W j w) x ≡ rewritten_entry c (E x)) (sym z)
            (second_same s W g j w at e p h ∙ r
            ∙ sym (changed_taken c (E at) (ap (replaces c) (sym (t.todo at (omega arith)) ∙ in_group s W g at e ∙ ap (λ x. entry_in (slice_index W.seconds x)) (sym p)) ∙ k)))
      ];
      todo = λ a q. other a (λ z. absurd (omega (arith, z, q))) ∙ t.todo a (omega arith);
    }

-- ---- what a table keeps

pub last_no_group : (e : Entry) (g : ℕ) → IsLast e → e ≡ Group g → ⊥
last_no_group e g l q = subst IsLast q l

-- what holds of the new word and of each old one holds of each word
pub each_set : (P : ℕ → ℕ → Type 0) (xs : List ℕ) (i w : ℕ) → i < length xs → P i w → ((k : ℕ) → k < length xs → P k (slice_index xs k))
    → (k : ℕ) → k < length xs → P k (slice_index (slice_set xs i w) k)
each_set P xs i w h new old k l =
    elim (cases_eq k i) [
      | inl e ↦ subst (λ k. P k (slice_index (slice_set xs i w) k)) (sym e) (subst (P i) (sym (get_or-set_same xs i w 0 h)) new)
      | inr n ↦ subst (P k) (sym (get_or-set_other xs i k w 0 n)) (old k l)
    ]

pub word_entry : (width w : ℕ) (e : Entry) → IsEntry width e → w ≡ word_of e → entry_in w ≡ e
word_entry width w e h p = ap entry_in p ∙ entry_in-word_of width e h

pub word_is : (width w : ℕ) (e : Entry) → IsEntry width e → w ≡ word_of e → IsWord width w
word_is width w e h p =
    let q = word_entry width w e h p in
    (subst (IsEntry width) (sym q) h, ap word_of q ∙ sym p)

pub last_word : (width w : ℕ) (e : Entry) → IsEntry width e → IsLast e → w ≡ word_of e → IsLastWord width w
last_word width w e h l p = (word_is width w e h p, subst IsLast (sym (word_entry width w e h p)) l)

last_first : (s : ℕ) (S : List ℕ) (e : Entry) → IsLast e → IsFirst s S e
last_first s S Miss h = tt
last_first s S (Hop n d) h = tt
last_first s S (Group g) h = absurd h

-- a word at which a lookup ends may stand in the first table too
pub first_of_last : (width s : ℕ) (S : List ℕ) (w : ℕ) → IsLastWord width w → IsFirstWord width s S w
first_of_last width s S w h = (h.0, last_first s S (entry_in w) h.1)

-- so may a group's that has room
pub first_of_group : (width s : ℕ) (S : List ℕ) (g w : ℕ) → g < 2 ^ 24 → HasRoom s S g → w ≡ word_of (Group g) → IsFirstWord width s S w
first_of_group width s S g w small room p =
    (word_is width w (Group g) small p, subst (IsFirst s S) (sym (word_entry width w (Group g) small p)) room)

pub first_word : (f s : ℕ) (W : Words) (i : ℕ) → IsTable f s W → i < 2 ^ f → IsFirstWord (f + s) s W.seconds (slice_index W.firsts i)
first_word f s W i t h = t.words.first_words i (subst (λ n. i < n) (sym t.words.firsts_len) h)

pub first_room : (f s : ℕ) (W : Words) (i g : ℕ) → IsTable f s W → i < 2 ^ f → IsLinkTo W.firsts i g → HasRoom s W.seconds g
first_room f s W i g t h e = subst (IsFirst s W.seconds) e (first_word f s W i t h).1

room_along : (s : ℕ) (S S' : List ℕ) (e : Entry) → length S' ≡ length S → IsFirst s S e → IsFirst s S' e
room_along s S S' Miss q h = tt
room_along s S S' (Hop n d) q h = tt
room_along s S S' (Group g) q h = subst (λ n. g * 2 ^ s + 2 ^ s ≤ n) (sym q) h

pub words_first : (f s : ℕ) (W : Words) (i w : ℕ) → IsWords f s W → i < length W.firsts → IsFirstWord (f + s) s W.seconds w → IsWords f s (with_first W i w)
words_first f s W i w t h n = record {
  firsts_len = length-set W.firsts i w ∙ t.firsts_len;
  first_words = λ k m. each_set (λ k x. IsFirstWord (f + s) s W.seconds x) W.firsts i w h n t.first_words k (subst (λ x. k < x) (length-set W.firsts i w) m);
  second_words = t.second_words;
}

pub words_second : (f s : ℕ) (W : Words) (j w : ℕ) → IsWords f s W → j < length W.seconds → IsLastWord (f + s) w → IsWords f s (with_second W j w)
words_second f s W j w t h n = record {
  firsts_len = t.firsts_len;
  first_words = λ k m. let old = t.first_words k m in (old.0, room_along s W.seconds (slice_set W.seconds j w) (entry_in (slice_index W.firsts k)) (length-set W.seconds j w) old.1);
  second_words = λ k m. each_set (λ k x. IsLastWord (f + s) x) W.seconds j w h n t.second_words k (subst (λ x. k < x) (length-set W.seconds j w) m);
}

pub table_first : (f s : ℕ) (W : Words) (i w : ℕ) → IsTable f s W → i < 2 ^ f → IsLastWord (f + s) w → IsTable f s (with_first W i w)
table_first f s W i w t h n =
    let within : i < length W.firsts = subst (λ k. i < k) (sym t.words.firsts_len) h in
    let old : (k g : ℕ) → IsLinkTo (slice_set W.firsts i w) k g → IsLinkTo W.firsts k g = λ k g z.
    let other : k ≢ i = λ here. last_no_group (entry_in w) g n.1 (ap entry_in (sym (get_or-set_same W.firsts i w 0 within)) ∙ ap (λ x. entry_in (slice_index (slice_set W.firsts i w) x)) (sym here) ∙ z) in
    ap entry_in (sym (get_or-set_other W.firsts i k w 0 other)) ∙ z in
    record {
      words = words_first f s W i w t.words within (first_of_last (f + s) s W.seconds w n);
      linked_once = λ k j g m n y z. t.linked_once k j g m n (old k g y) (old j g z);
    }

pub table_second : (f s : ℕ) (W : Words) (j w : ℕ) → IsTable f s W → j < length W.seconds → IsLastWord (f + s) w → IsTable f s (with_second W j w)
table_second f s W j w t h n = record { words = words_second f s W j w t.words h n; linked_once = t.linked_once }

-- ---- the word that was stored

pub stored_first : (P : ℕ → Type 0) (W : Words) (i w : ℕ) → i < length W.firsts → P w
    → P (slice_index (slice_set W.firsts i w) i) × (with_first W i w ≡ with_first W i (slice_index (slice_set W.firsts i w) i))
stored_first P W i w h p = let q = get_or-set_same W.firsts i w 0 h in (subst P (sym q) p, ap (with_first W i) (sym q))

pub stored_second : (P : ℕ → Type 0) (W : Words) (j w : ℕ) → j < length W.seconds → P w
    → P (slice_index (slice_set W.seconds j w) j) × (with_second W j w ≡ with_second W j (slice_index (slice_set W.seconds j w) j))
stored_second P W j w h p = let q = get_or-set_same W.seconds j w 0 h in (subst P (sym q) p, ap (with_second W j) (sym q))

pub index_first : (W W' : Words) (i w : ℕ) → i < length W.firsts → W' ≡ with_first W i w → slice_index W'.firsts i ≡ w
index_first W W' i w h e = ap (λ (x : Words). slice_index x.firsts i) e ∙ get_or-set_same W.firsts i w 0 h

-- a store after loads that left the cells as they were is one of the old cells
pub sets_first : {A : Type 0} (words : A → Words) (P : A → ℕ → ℕ → A → Type 0) (old mid new : A) (i w : ℕ) → mid ≡ old → i < length (words old).firsts
    → words new ≡ with_first (words mid) i w → P mid i w new → P old i (slice_index (words new).firsts i) new
sets_first words P old mid new i w same h e p =
    let q = index_first (words old) (words new) i w h (e ∙ ap (λ x. with_first (words x) i w) same) in
    subst (λ x. P x i (slice_index (words new).firsts i) new) same (subst (λ x. P mid i x new) (sym q) p)

-- ---- what a change keeps

-- the word at i is no group's before and after
pub whole_first : (s : ℕ) (F : List ℕ) (i w x : ℕ) → IsLast (entry_in (slice_index F i)) → IsWhole s F x → IsWhole s (slice_set F i w) x
whole_first s F i w x l h k m =
    elim (cases_eq k i) [
      | inl e ↦ h k (subst (λ z. IsLast (entry_in (slice_index F z))) (sym e) l)
      | inr n ↦ h k (subst (λ z. IsLast (entry_in z)) (get_or-set_other F i k w 0 n) m)
    ]

-- the end of a block is a whole bound
pub whole_block : (s : ℕ) (F : List ℕ) (i : ℕ) → IsWhole s F (i * 2 ^ s + 2 ^ s)
whole_block s F i k l h =
    elim (cases_lt i k) [
      | inl above ↦
          let m = mul-le-mul_right (2 ^ s) above in
          absurd (omega (arith, h, m))
      | inr below ↦ let m = mul-le-mul_right (2 ^ s) below in omega (arith, m)
    ]

suc_mul : (m k : ℕ) → suc m * k ≡ m * k + k
suc_mul m k = omega arith

-- a bound inside a block that has a group
pub whole_inside : (s : ℕ) (F : List ℕ) (b g x : ℕ) → IsLinkTo F b g → b * 2 ^ s ≤ x → x ≤ b * 2 ^ s + 2 ^ s → IsWhole s F x
whole_inside s F b g x e low high i l h = elim (cases_eq i b) [
  | inl q ↦ absurd (last_no_group (entry_in (slice_index F i)) g l (ap (λ k. entry_in (slice_index F k)) q ∙ e))
  | inr n ↦ elim (cases_lt i b) [
    | inl below ↦ let z = mul-le-mul_right (2 ^ s) below in omega (arith, z, low, suc_mul i (2 ^ s))
    | inr above ↦
        let k : suc b ≤ i = omega (arith, n, above) in
        let z = mul-le-mul_right (2 ^ s) k in
        absurd (omega (arith, z, h, high, suc_mul b (2 ^ s)))
  ]
]

-- in a block with no group, a change stands at the block's beginning
pub at_block : (s : ℕ) (F : List ℕ) (at : ℕ) → IsLast (entry_in (slice_index F (at / 2 ^ s))) → IsWhole s F at → at ≡ at / 2 ^ s * 2 ^ s
at_block s F at l h =
    elim (cases_lt (at / 2 ^ s * 2 ^ s) at) [
      | inl below ↦ let z = h (at / 2 ^ s) l below in absurd (omega (arith, z, block_high s at))
      | inr above ↦ omega (arith, above, block_low s at)
    ]

-- a product of two is above another of the same factor
step_mul : (m n k : ℕ) → m * k < n * k → suc m * k ≤ n * k
step_mul m n k h = elim (cases_lt m n) [
  | inl below ↦ mul-le-mul_right k below
  | inr above ↦ let z = mul-le-mul_right k above in absurd (omega (arith, z, h))
]

whole_multiple : (s : ℕ) (F : List ℕ) (m : ℕ) → IsWhole s F (m * 2 ^ s)
whole_multiple s F m i l h = let z = step_mul i m (2 ^ s) h in omega (arith, z, suc_mul i (2 ^ s))

-- the range of a prefix ends inside the addresses
range_fits : (width len b : ℕ) → len ≤ width → b < 2 ^ width → b / 2 ^ (width - len) * 2 ^ (width - len) ≡ b → b + 2 ^ (width - len) ≤ 2 ^ width
range_fits width len b h l e =
    let k = width - len in
    let split : 2 ^ width ≡ 2 ^ len * 2 ^ k = ap (λ n. 2 ^ n) (omega arith) ∙ pow-add 2 len k in
    let z = step_mul (b / 2 ^ k) (2 ^ len) (2 ^ k) (omega (arith, split, l, e)) in
    omega (arith, z, split, e, suc_mul (b / 2 ^ k) (2 ^ k))

short_range : (f s : ℕ) (p : Network) (c : Rewrite) (F : List ℕ) → IsNetwork (f + s) p → p.len ≤ f → IsEntry (f + s) c.entry → IsLast c.entry
    → IsRewriting f s p.bits p.bits (p.bits + 2 ^ (f + s - p.len)) c F
short_range f s p c F n h e l =
    let k = f + s - p.len in
    let m = p.bits / 2 ^ k in
    let j = k - s in
    let split : 2 ^ k ≡ 2 ^ j * 2 ^ s = ap (λ n. 2 ^ n) (omega arith) ∙ pow-add 2 j s in
    let net : m * 2 ^ k ≡ p.bits = n.2 in
    let low : m * 2 ^ j * 2 ^ s ≡ p.bits = mul_assoc m (2 ^ j) (2 ^ s) ∙ ap (λ x. m * x) (sym split) ∙ net in
    let high : suc m * 2 ^ j * 2 ^ s ≡ p.bits + 2 ^ k = mul_assoc (suc m) (2 ^ j) (2 ^ s) ∙ ap (λ x. suc m * x) (sym split) ∙ suc_mul m (2 ^ k) ∙ ap (λ x. x + 2 ^ k) net in
    record {
      started = omega arith;
      within = omega arith;
      fits = range_fits (f + s) p.len p.bits n.0 n.1 n.2;
      entry = e;
      last = l;
      whole_at = subst (IsWhole s F) low (whole_multiple s F (m * 2 ^ j));
      whole_end = subst (IsWhole s F) high (whole_multiple s F (suc m * 2 ^ j));
    }

-- a prefix longer than FIRST bits ends in the block that it begins in
pub deep_high : (f s : ℕ) (p : Network) → IsNetwork (f + s) p → f < p.len → p.bits + 2 ^ (f + s - p.len) ≤ p.bits / 2 ^ s * 2 ^ s + 2 ^ s
deep_high f s p n h =
    let k = f + s - p.len in
    let m = p.bits / 2 ^ k in
    let b = p.bits / 2 ^ s in
    let fits = n.0 in
    let split : 2 ^ s ≡ 2 ^ (s - k) * 2 ^ k = ap (λ n. 2 ^ n) (omega (arith, fits, h)) ∙ pow-add 2 (s - k) k in
    let net : m * 2 ^ k ≡ p.bits = n.2 in
    let top : suc b * 2 ^ (s - k) * 2 ^ k ≡ suc b * 2 ^ s = mul_assoc (suc b) (2 ^ (s - k)) (2 ^ k) ∙ ap (λ x. suc b * x) (sym split) in
    let z = step_mul m (suc b * 2 ^ (s - k)) (2 ^ k) (omega (arith, net, top, suc_mul b (2 ^ s), block_high s p.bits)) in
    omega (arith, z, top, net, suc_mul m (2 ^ k), suc_mul b (2 ^ s))

deep_range : (f s : ℕ) (p : Network) (c : Rewrite) (F : List ℕ) (g : ℕ) → IsNetwork (f + s) p → f < p.len → IsEntry (f + s) c.entry → IsLast c.entry
    → IsLinkTo F (p.bits / 2 ^ s) g
    → IsRewriting f s p.bits p.bits (p.bits + 2 ^ (f + s - p.len)) c F
deep_range f s p c F g n h e l q =
    let k = f + s - p.len in
    let b = p.bits / 2 ^ s in
    let high = deep_high f s p n h in
    record {
      started = omega arith;
      within = omega arith;
      fits = range_fits (f + s) p.len p.bits n.0 n.1 n.2;
      entry = e;
      last = l;
      whole_at = whole_inside s F b g p.bits q (block_low s p.bits) (omega (arith, high));
      whole_end = whole_inside s F b g (p.bits + 2 ^ k) q (let w = block_low s p.bits in omega (arith, w)) high;
    }

-- the change over the addresses of a prefix
pub range_of : (f s : ℕ) (p : Network) (c : Rewrite) → IsNetwork (f + s) p → IsEntry (f + s) c.entry → IsLast c.entry
    → IsRangeOf f s p (record { from = p.bits; at = p.bits; end = p.bits + 2 ^ (f + s - p.len); rewrite = c })
range_of f s p c n e l = record {
  from = refl;
  at = refl;
  end = refl;
  short = λ h F. short_range f s p c F n h e l;
  deep = λ h F g q. deep_range f s p c F g n h e l q;
}
