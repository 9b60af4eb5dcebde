-- The steps of a change that unlinks a group.
use Rattle.std.proofs.Common.{arith, ◌≡◌, ℕ, ◌+◌, ◌*◌, ◌/◌, ◌%◌, ◌^◌, ◌<◌, inl, inr, ap, sym, ◌∙◌, ◌-◌, ◌≤◌, refl, subst, length, Bool, true, false, Some, None}
use Rattle.std.specs.Prelude.{slice_index, slice_set, if◌then◌else◌}
use Rattle.std.proofs.lemmas.Bool.{cases_lt, cases_eq}
use Rattle.std.proofs.lemmas.Nat.{shr_high, shr_split, pow_pos, mod_below}
use Rattle.lpm_cells.specs.declared.entry.Entry.{Entry}
use Rattle.lpm_cells.specs.declared.entry.Entry.TheVariants.{Group, Miss, Hop}
use Rattle.lpm_cells.specs.Words.{entry_in, word_of, IsLast, IsLastWord, group_in, entry_at, Words, with_first}
use Rattle.lpm_update.specs.declared.rewrite.Rewrite.{Rewrite}
use Rattle.lpm_update.specs.Rewrite.{rewritten_entry, Stands, Skips}
use Rattle.lpm_update.specs.Kinds.{final_entry, IsFurther, IsUnlinking, IsUnlinkStore}
use Rattle.lpm_update.proofs.Places.{in_group, first_same, first_other, first_room, last_no_group, table_first, stored_first}
use Rattle.lpm_update.proofs.Links.{range_true, range_low, range_high, final_same, stands_along, same_group}
use Rattle.lpm_update.specs.declared.Did.{Did}
use Rattle.lpm_update.specs.declared.Did.TheVariants.{First, Second, Unlinked, Done}
use Rattle.lpm_update.specs.declared.rewrite_range.RewriteRange.{RewriteRange}
use Rattle.lpm_update.specs.declared.unlink_group.UnlinkGroup.{UnlinkGroup}
use Rattle.lpm_update.specs.declared.update.Plan.{Plan}
use Rattle.lpm_update.specs.declared.update.Plan.TheVariants.{Range, Unlink}
use Rattle.lpm_update.specs.BlockGroups.{IsTable, IsLinkTo, group_at}
use Rattle.lpm_update.specs.Update.{IsUnderWay, IsNextUnlink, SameGroups, group_held, places_left}
use Rattle.lpm_update.specs.Step.{HasPassed, HeldAlong, Steps, StoresNext}
use Rattle.lpm_update.proofs.Groups.{gives_up, group_set_same, group_set_other, last_none, not_unlinked, here_is, there_is}

-- A range over one block that leaves all of it with one entry.

-- at the end each address has its final entry
pub stands_final : (s from end : ℕ) (c : Rewrite) (W : Words) (E : ℕ → Entry) → Stands s from end c W E → (a : ℕ) → entry_at s W a ≡ final_entry from end c a (E a)
stands_final s from end c W E t a = elim (cases_lt a from) [
  | inl below ↦ t.before a below ∙ sym (range_low from end a (rewritten_entry c (E a)) (E a) below)
  | inr above ↦ elim (cases_lt a end) [
    | inl inside ↦ t.done a above inside ∙ sym (range_true from end a (rewritten_entry c (E a)) (E a) above inside)
    | inr past ↦ t.todo a past ∙ sym (range_high from end a (rewritten_entry c (E a)) (E a) past)
  ]
]

-- the words of the block's group are then all one
pub uniform_words : (s from end : ℕ) (c : Rewrite) (W : Words) (E : ℕ → Entry) (b g : ℕ) (x : Entry) → entry_in (slice_index W.firsts b) ≡ Group g → Stands s from end c W E
    → ((a : ℕ) → a / 2 ^ s ≡ b → final_entry from end c a (E a) ≡ x) → (r : ℕ) → r < 2 ^ s → entry_in (slice_index W.seconds (g * 2 ^ s + r)) ≡ x
uniform_words s from end c W E b g x e t all r h =
    let a = b * 2 ^ s + r in
    let block : a / 2 ^ s ≡ b = shr_high b s r h in
    let place : a % 2 ^ s ≡ r = omega (arith, shr_split a s, ap (λ y. y * 2 ^ s) block) in
    ap (λ y. entry_in (slice_index W.seconds (g * 2 ^ s + y))) (sym place)
    ∙ sym (in_group s W g a (ap (λ k. entry_in (slice_index W.firsts k)) block ∙ e))
    ∙ stands_final s from end c W E t a ∙ all a block

-- it is seen by no address
unlink_unseen : (s : ℕ) (W : Words) (b g w a : ℕ) → b < length W.firsts → IsLinkTo W.firsts b g → IsLast (entry_in w)
    → ((r : ℕ) → r < 2 ^ s → entry_in (slice_index W.seconds (g * 2 ^ s + r)) ≡ entry_in w)
    → entry_at s (with_first W b w) a ≡ entry_at s W a
unlink_unseen s W b g w a h e l all = elim (cases_eq (a / 2 ^ s) b) [
  | inl q ↦ first_same s W b w a h q l ∙ sym (in_group s W g a (ap (λ k. entry_in (slice_index W.firsts k)) q ∙ e) ∙ all (a % 2 ^ s) (mod_below a (2 ^ s) (pow_pos s)))
  | inr n ↦ first_other s W b w a n
]

place_in : (f s : ℕ) (W : Words) (b g r : ℕ) → IsTable f s W → b < 2 ^ f → IsLinkTo W.firsts b g → r < 2 ^ s → g * 2 ^ s + r < length W.seconds
place_in f s W b g r t h e l = let room : g * 2 ^ s + 2 ^ s ≤ length W.seconds = first_room f s W b g t h e in omega (arith, room, l)

-- the words of the group are all of one entry
abbrev pub IsOneEntry : ℕ → Words → ℕ → Type 0
IsOneEntry second t g =
    (x : Entry)
    × ((r : ℕ) → r < 2 ^ second → entry_in (slice_index t.seconds (g * 2 ^ second + r)) ≡ x)

-- words of one entry are one word
one_word : (f s : ℕ) (W : Words) (b g w : ℕ) (x : Entry) → IsTable f s W → b < 2 ^ f → IsLinkTo W.firsts b g
    → ((r : ℕ) → r < 2 ^ s → entry_in (slice_index W.seconds (g * 2 ^ s + r)) ≡ x) → w ≡ slice_index W.seconds (g * 2 ^ s) → IsUnlinkStore s W b g w
one_word f s W b g w x t h e all q = record {
  group = e;
  word = λ r l.
      let here = place_in f s W b g r t h e l in
      let zero_here = place_in f s W b g 0 t h e (pow_pos s) in
      let z : slice_index W.seconds (g * 2 ^ s) ≡ slice_index W.seconds (g * 2 ^ s + 0) = ap (slice_index W.seconds) (omega arith) in
      sym (t.words.second_words (g * 2 ^ s + r) here).0.1 ∙ ap word_of (all r l ∙ sym (all 0 (pow_pos s))) ∙ (t.words.second_words (g * 2 ^ s + 0) zero_here).0.1 ∙ sym (q ∙ z);
}

-- the store that the word of place 0 makes
pub unlinks : (f s : ℕ) (W : Words) (b n w place : ℕ) → IsTable f s W → b < 2 ^ f
    → (g : ℕ) × IsLinkTo W.firsts b g × IsOneEntry s W g
    → IsLinkTo W.firsts b n → place ≡ n * 2 ^ s → w ≡ slice_index W.seconds place → IsUnlinkStore s W b n w
unlinks f s W b n w place t h k e p q =
    let same : k.0 ≡ n = same_group k.0 n (sym k.1 ∙ e) in
    one_word f s W b n w k.2.0 t h e (λ r l. ap (λ y. entry_in (slice_index W.seconds (y * 2 ^ s + r))) (sym same) ∙ k.2.1 r l) (q ∙ ap (slice_index W.seconds) p)

-- the word that unlinks is one at which a lookup ends
pub unlink_word : (f s : ℕ) (W : Words) (b g w : ℕ) → IsTable f s W → b < 2 ^ f → IsUnlinkStore s W b g w → IsLastWord (f + s) w
unlink_word f s W b g w t h u = subst (IsLastWord (f + s)) (u.word 0 (pow_pos s)) (t.words.second_words (g * 2 ^ s + 0) (place_in f s W b g 0 t h u.group (pow_pos s)))

-- ---- the steps of the range

pub some_group : (e : Entry) (g : ℕ) → group_in e ≡ Some g → e ≡ Group g
some_group Miss g q = cc
some_group (Hop h d) g q = cc
some_group (Group k) g q = cc

pub both_ways : {A : Type 0} (b : Bool) → b ≡ true → b ≡ false → A
both_ways true e n = cc
both_ways false e n = cc

-- the block keeps its group, and the change still leaves it with one entry
unlinking_along : (f s : ℕ) (u r : RewriteRange) (block : ℕ) (W W' : Words) → IsUnlinking f s u block W → IsFurther u r → IsUnderWay f s (Range r) W'
    → ((E : ℕ → Entry) → Stands s u.from u.at u.rewrite W E → Stands s r.from r.at r.rewrite W' E) → group_at W'.firsts block ≡ group_at W.firsts block → IsUnlinking f s r block W'
unlinking_along f s u r block W W' k same now stands held = record {
  rewriting = now;
  in_table = k.in_table;
  low = let a = k.low in let b = same.from in omega (arith, a, b);
  high = let a = k.high in let b = same.end in omega (arith, a, b);
  group = (k.group.0, some_group (entry_in (slice_index W'.firsts block)) k.group.0 (held ∙ ap group_in k.group.1));
  uniform = (
    k.uniform.0,
    stands k.uniform.0 k.uniform.1,
    (
      k.uniform.2.0,
      λ a here. final_same a (k.uniform.0 a) r.from u.from r.end u.end r.rewrite u.rewrite same.from same.end same.rewrite ∙ k.uniform.2.1 a here,
    ),
  );
}

module _ (f s : ℕ) (u : UnlinkGroup) (W : Words) (there : u.unlinked ≡ false) where
  module _ (k : IsUnlinking f s u.range u.block W) (r : RewriteRange) (W' : Words) where
    abbrev v : Plan
    v = Unlink (record u { range = r })

    of_range : (did : Did) → (did ≡ Done → ⊥) → Steps f s (Range u.range) W did (Range r) W' → SameGroups f (group_held (Unlink u) W.firsts) (group_held v W'.firsts)
        → HasPassed s did v W'.firsts → HeldAlong f did (group_held (Unlink u) W.firsts) (group_held v W'.firsts) → StoresNext f s did (Unlink u) W v W' → Steps f s (Unlink u) W did v W'
    of_range did n h same passed held stored =
        let left = h.left n in
        record {
          onward = (h.onward, refl, λ e. e);
          passed = passed;
          table = h.table;
          under_way = ((λ _. unlinking_along f s u.range r u.block W W' k h.onward h.under_way h.stands (same u.block k.in_table)), λ e. both_ways u.unlinked e there);
          stands = h.stands;
          groups = λ L known b low. same b low ∙ known b low;
          held = held;
          left = λ _. omega (arith, left);
          stored = stored;
        }

    -- a step of the range is one of the change
    pub unlink_range : (did : Did) → (did ≡ Done → ⊥) → Steps f s (Range u.range) W did (Range r) W' → Steps f s (Unlink u) W did (Unlink (record u { range = r })) W'
    unlink_range (First i) n h =
        of_range (First i) n h h.held (inl (h.passed, λ q. last_no_group (entry_in (slice_index W.firsts i)) k.group.0 h.stored.0.last (ap (λ x. entry_in (slice_index W.firsts x)) q ∙ k.group.1))) h.held ((there, h.stored.0), h.stored.1)
    unlink_range (Second j) n h = of_range (Second j) n h h.held (inl h.passed) h.held ((there, h.stored.0), h.stored.1)
    unlink_range (Unlinked b g) n h = absurd h.stored.0
    unlink_range Done n h = absurd (n refl)

    -- after the range, the words of the block's group are of one entry
    pub one_entry : Steps f s (Range u.range) W Done (Range r) W' → (g : ℕ) × IsLinkTo W'.firsts u.block g × IsOneEntry s W' g
    one_entry h =
        let E = k.uniform.0 in
        let group = ap (λ (x : Words). entry_in (slice_index x.firsts u.block)) h.stored.0 ∙ k.group.1 in
        let over : r.at ≡ r.end = h.stored.1.reached in
        let t : Stands s r.from r.end r.rewrite W' E = subst (λ x. Stands s r.from x r.rewrite W' E) over (h.stands E k.uniform.1) in (
          k.group.0,
          group,
          (
            k.uniform.2.0,
            uniform_words s r.from r.end r.rewrite W' E u.block k.group.0 k.uniform.2.0 group t (λ a here.
                final_same a (E a) r.from u.range.from r.end u.range.end r.rewrite u.range.rewrite h.onward.from h.onward.end h.onward.rewrite ∙ k.uniform.2.1 a here),
          ),
        )

  -- the store over the link
  pub unlink_link : (r : RewriteRange) (g w : ℕ) → IsUnlinking f s u.range u.block W → Steps f s (Range u.range) W Done (Range r) W → Skips s u.range.rewrite W u.range.at u.range.end
      → IsUnlinkStore s W u.block g w → Steps f s (Unlink u) W (Unlinked u.block g) (Unlink (record u { range = r; unlinked = true })) (with_first W u.block w)
  unlink_link r g w k h skips store =
      let block = k.in_table in
      let within : u.block < length W.firsts = subst (λ x. u.block < x) (sym h.table.words.firsts_len) block in
      let word = unlink_word f s W u.block g w h.table block store in
      let over : r.at ≡ r.end = h.stored.1.reached in
      let one : places_left f s (Unlink u) ≡ (u.range.end - u.range.at) + 1 = ap (λ b. (u.range.end - u.range.at) + (if b then 0 else 1)) there in
      record {
        onward = (h.onward, refl, λ _. refl);
        passed = inr refl;
        table = table_first f s W u.block w h.table block word;
        under_way = ((λ e. absurd cc), λ _. over);
        stands = λ E st. stands_along s r.from r.at r.rewrite W (with_first W u.block w) E (λ a. unlink_unseen s W u.block g w a within store.group word.1 (λ q l. ap entry_in (store.word q l))) (h.stands E st);
        groups = λ L known b low.
            let was = known b low ∙ sym (not_unlinked u.unlinked b u.block (L b) there) in
            elim (cases_eq b u.block) [
              | inl q ↦ ap (group_at (slice_set W.firsts u.block w)) q ∙ group_set_same W.firsts u.block w within ∙ last_none (entry_in w) word.1 ∙ sym (here_is b u.block None (L b) q)
              | inr ne ↦ group_set_other W.firsts u.block b w ne ∙ was ∙ sym (there_is b u.block None (L b) ne)
            ];
        held = gives_up f W.firsts u.block g w block within (ap group_in store.group) word.1;
        left = λ _. omega (arith, over, one);
        stored = stored_first (IsNextUnlink f s (Unlink u) W u.block g) W u.block w within (there, refl, skips, store);
      }
