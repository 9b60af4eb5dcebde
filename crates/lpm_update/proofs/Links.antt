-- A group is filled and then linked.
use Rattle.std.proofs.Common.{arith, ◌≡◌, ◌≢◌, ℕ, ◌+◌, ◌*◌, ◌/◌, ◌%◌, ◌^◌, ◌<◌, ◌≤◌, ◌⊎◌, inl, inr, Bool, true, false, cond, length, refl, ap, sym, ◌∙◌, subst, Some}
use Rattle.std.specs.Prelude.{slice_index, slice_set, nat_le, nat_lt, ◌&&◌, ◌==◌, if◌then◌else◌}
use Rattle.std.proofs.lemmas.List.{get_or-set_same, get_or-set_other}
use Rattle.std.proofs.Math.ListN.{length-set}
use Rattle.std.proofs.Math.Pow.{pow_mono}
use Rattle.std.proofs.lemmas.Nat.{pow_pos, mod_below, shr_split, same_from_place}
use Rattle.std.proofs.lemmas.Bool.{cases_lt, cases_eq, le-leb, le-ltb, lt-ltb, lt-leb}
use Rattle.lpm_cells.specs.declared.entry.Entry.{Entry}
use Rattle.lpm_cells.specs.declared.entry.Entry.TheVariants.{Group}
use Rattle.lpm_cells.specs.Words.{IsEntry, IsLast, IsLastWord, word_of, entry_in, group_in, Words, HasRoom, entry_at, last_entry, with_first, with_second}
use Rattle.lpm_update.specs.declared.Did.TheVariants.{First, Second}
use Rattle.lpm_update.specs.declared.rewrite.Rewrite.{Rewrite}
use Rattle.lpm_update.specs.declared.link_group.LinkGroup.{LinkGroup}
use Rattle.lpm_update.specs.declared.update.Plan.TheVariants.{Link}
use Rattle.lpm_update.specs.Rewrite.{replaces, rewritten_entry, Stands}
use Rattle.lpm_update.specs.BlockGroups.{IsTable, IsLinkTo, group_at}
use Rattle.lpm_update.specs.Kinds.{IsLinking, IsFillStore, IsLinkStore, filled_entry, final_entry, in_range, reach_of_link}
use Rattle.lpm_update.specs.Update.{IsNextFirst, IsNextSecond}
use Rattle.lpm_update.specs.Step.{Steps}
use Rattle.lpm_update.proofs.Places.{table_second, block_of, second_other, first_other, first_word, first_of_group, last_word, word_entry, words_first, followed_last, stored_first, stored_second}
use Rattle.lpm_update.proofs.Groups.{group_set_same, group_set_other, unlinked_yet, linked_now, here_is, there_is, held_by}

-- a store into a group that no block has is seen by no address
pub unseen : (s : ℕ) (W : Words) (g r w a : ℕ) → r < 2 ^ s → ((i : ℕ) → IsLinkTo W.firsts i g → ⊥)
    → entry_at s (with_second W (g * 2 ^ s + r) w) a ≡ entry_at s W a
unseen s W g r w a h free = second_other s W (g * 2 ^ s + r) w a (λ f q z.
    let both = same_from_place f (a % 2 ^ s) g r (2 ^ s) (mod_below a (2 ^ s) (pow_pos s)) h z in
    free (a / 2 ^ s) (q ∙ ap Group both.0))

-- where no address is answered otherwise, a change stands as it did
pub stands_along : (s from at : ℕ) (c : Rewrite) (W W' : Words) (E : ℕ → Entry) → ((a : ℕ) → entry_at s W' a ≡ entry_at s W a)
    → Stands s from at c W E → Stands s from at c W' E
stands_along s from at c W W' E same t = record {
  before = λ a p. same a ∙ t.before a p;
  done = λ a p q. same a ∙ t.done a p q;
  todo = λ a p. same a ∙ t.todo a p;
}

-- the link
pub linked_in : (s : ℕ) (W : Words) (b g w a : ℕ) → b < length W.firsts → entry_in w ≡ Group g → a / 2 ^ s ≡ b
    → entry_at s (with_first W b w) a ≡ entry_in (slice_index W.seconds (g * 2 ^ s + a % 2 ^ s))
linked_in s W b g w a h e p =
    ap (λ k. last_entry s W.seconds (a % 2 ^ s) (entry_in (slice_index (slice_set W.firsts b w) k))) p
    ∙ ap (λ x. last_entry s W.seconds (a % 2 ^ s) (entry_in x)) (get_or-set_same W.firsts b w 0 h)
    ∙ ap (last_entry s W.seconds (a % 2 ^ s)) e

pub range_true : (from end a : ℕ) (x y : Entry) → from ≤ a → a < end → cond (in_range from end a) x y ≡ x
range_true from end a x y l h = ap (λ b. cond (b && nat_lt a end) x y) (le-leb from a l) ∙ ap (λ b. cond b x y) (lt-ltb a end h)

pub range_low : (from end a : ℕ) (x y : Entry) → a < from → cond (in_range from end a) x y ≡ y
range_low from end a x y l = ap (λ b. cond (b && nat_lt a end) x y) (lt-leb from a l)

and_no : (b : Bool) (x y : Entry) → cond (b && false) x y ≡ y
and_no true x y = refl
and_no false x y = refl

pub range_high : (from end a : ℕ) (x y : Entry) → end ≤ a → cond (in_range from end a) x y ≡ y
range_high from end a x y h = ap (λ b. cond (nat_le from a && b) x y) (le-ltb a end h) ∙ and_no (nat_le from a) x y

-- the entry by a range, of which the parts are the same
pub final_same : (a : ℕ) (e : Entry) (from from' end end' : ℕ) (c c' : Rewrite) → from ≡ from' → end ≡ end' → c ≡ c' → final_entry from end c a e ≡ final_entry from' end' c' a e
final_same a e from from' end end' c c' p q r = λ i. final_entry (p i) (q i) (r i) a e

pub stands_link : (s from end : ℕ) (c : Rewrite) (W : Words) (E : ℕ → Entry) (b g w : ℕ) → b < length W.firsts → entry_in w ≡ Group g → IsLast (entry_in (slice_index W.firsts b))
    → b * 2 ^ s ≤ from → from ≤ end → end ≤ b * 2 ^ s + 2 ^ s
    → ((r : ℕ) → r < 2 ^ s → entry_in (slice_index W.seconds (g * 2 ^ s + r)) ≡ cond (in_range from end (b * 2 ^ s + r)) (rewritten_entry c (entry_in (slice_index W.firsts b))) (entry_in (slice_index W.firsts b)))
    → Stands s from from c W E → Stands s from end c (with_first W b w) E
stands_link s from end c W E b g w h e l low mid high fill t =
    let old : (a : ℕ) → entry_at s W a ≡ E a = λ a. elim (cases_lt a from) [ inl p ↦ t.before a p | inr p ↦ t.todo a p ] in
    let out : (a : ℕ) → a / 2 ^ s ≢ b → entry_at s (with_first W b w) a ≡ E a = λ a n. first_other s W b w a n ∙ old a in
    let was : (a : ℕ) → a / 2 ^ s ≡ b → E a ≡ entry_in (slice_index W.firsts b) = λ a p.
    sym (old a) ∙ ap (λ x. last_entry s W.seconds (a % 2 ^ s) (entry_in (slice_index W.firsts x))) p ∙ followed_last s W.seconds (a % 2 ^ s) _ l in
    let new : (a : ℕ) → a / 2 ^ s ≡ b → entry_at s (with_first W b w) a ≡ cond (in_range from end a) (rewritten_entry c (E a)) (E a) = λ a p.
    let place : b * 2 ^ s + a % 2 ^ s ≡ a = ap (λ x. x * 2 ^ s + a % 2 ^ s) (sym p) ∙ shr_split a s in
    linked_in s W b g w a h e p ∙ fill (a % 2 ^ s) (mod_below a (2 ^ s) (pow_pos s))
    ∙ ap (λ x. cond (in_range from end x) (rewritten_entry c (entry_in (slice_index W.firsts b))) (entry_in (slice_index W.firsts b))) place
    ∙ ap (λ x. cond (in_range from end a) (rewritten_entry c x) x) (sym (was a p)) in
    record {
      before = λ a p. elim (cases_eq (a / 2 ^ s) b) [ inl q ↦ new a q ∙ range_low from end a (rewritten_entry c (E a)) (E a) p | inr n ↦ out a n ];
      done = λ a p q. new a (block_of s a b (omega (arith, low, p)) (omega (arith, high, q))) ∙ range_true from end a (rewritten_entry c (E a)) (E a) p q;
      todo = λ a p. elim (cases_eq (a / 2 ^ s) b) [ inl q ↦ new a q ∙ range_high from end a (rewritten_entry c (E a)) (E a) p | inr n ↦ out a n ];
    }

pub same_group : (i g : ℕ) → Group i ≡ Group g → i ≡ g
same_group i g e = cc

table_link : (f s : ℕ) (W : Words) (b g w : ℕ) → IsTable f s W → b < 2 ^ f → g < 2 ^ 24 → HasRoom s W.seconds g → w ≡ word_of (Group g)
    → ((i : ℕ) → IsLinkTo W.firsts i g → ⊥) → IsTable f s (with_first W b w)
table_link f s W b g w t h n room p free =
    let within : b < length W.firsts = subst (λ k. b < k) (sym t.words.firsts_len) h in
    let q : entry_in w ≡ Group g = word_entry (f + s) w (Group g) n p in
    let at : IsLinkTo (slice_set W.firsts b w) b g = ap entry_in (get_or-set_same W.firsts b w 0 within) ∙ q in
    let cases : (k i : ℕ) → IsLinkTo (slice_set W.firsts b w) k i → ((k ≡ b) × (i ≡ g)) ⊎ IsLinkTo W.firsts k i = λ k i z. elim (cases_eq k b) [
      | inl e ↦ inl (e, same_group i g (sym z ∙ ap (λ x. entry_in (slice_index (slice_set W.firsts b w) x)) e ∙ at))
      | inr ne ↦ inr (ap entry_in (sym (get_or-set_other W.firsts b k w 0 ne)) ∙ z)
    ] in
    record {
      words = words_first f s W b w t.words within (first_of_group (f + s) s W.seconds g w n room p);
      linked_once = λ k j i m l y z. elim (cases k i y) [
        | inl u ↦ elim (cases j i z) [
          | inl v ↦ u.0 ∙ sym v.0
          | inr v ↦ absurd (free j (v ∙ ap Group u.1))
        ]
        | inr u ↦ elim (cases j i z) [
          | inl v ↦ absurd (free k (u ∙ ap Group v.1))
          | inr v ↦ t.linked_once k j i m l u v
        ]
      ];
    }

-- ---- the steps

cond_has : (P : Entry → Type 0) (b : Bool) (x y : Entry) → P x → P y → P (cond b x y)
cond_has P true x y p q = p
cond_has P false x y p q = q

pub filled_has : (P : Entry → Type 0) (s : ℕ) (u : LinkGroup) (r : ℕ) (old : Entry) → P u.rewrite.entry → P old → P (filled_entry s u r old)
filled_has P s u r old p q = cond_has P (in_range u.from u.end (u.block * 2 ^ s + r)) (rewritten_entry u.rewrite old) old (cond_has P (replaces u.rewrite old) u.rewrite.entry old p q) q

-- the change after a store
abbrev pub next_place : LinkGroup → LinkGroup
next_place u = record u { next = u.next + 1 }

pub reached_low : (s : ℕ) (u : LinkGroup) → u.next ≤ 2 ^ s → reach_of_link s u ≡ u.from
reached_low s u h = unlinked_yet s u.next u.from u.end h

pub reached_high : (s : ℕ) (u : LinkGroup) → 2 ^ s < u.next → reach_of_link s u ≡ u.end
reached_high s u h = linked_now s u.next u.from u.end h

module _ (f s : ℕ) (u : LinkGroup) (W : Words) (t : IsTable f s W) (k : IsLinking f s u W) where
  -- the entry that the next place of the group gets may stand in it
  pub fills_word : (w : ℕ) → u.next < 2 ^ s → w ≡ word_of (filled_entry s u u.next (entry_in (slice_index W.firsts u.block))) → IsLastWord (f + s) w
  fills_word w more p =
      let old = entry_in (slice_index W.firsts u.block) in
      last_word (f + s) w (filled_entry s u u.next old) (filled_has (IsEntry (f + s)) s u u.next old k.entry (first_word f s W u.block t k.block).0.0)
      (filled_has IsLast s u u.next old k.last (k.old (omega (arith, more)))) p

  pub link_fill : (j w : ℕ) → IsFillStore s u W.firsts j w → Steps f s (Link u) W (Second j) (Link (next_place u)) (with_second W j w)
  link_fill j w n =
      let old = entry_in (slice_index W.firsts u.block) in
      let more = n.0 in
      let p = n.1 in
      let room : u.group * 2 ^ s + 2 ^ s ≤ length W.seconds = k.room in
      let below : u.next ≤ 2 ^ s = omega (arith, more) in
      let after : u.next + 1 ≤ 2 ^ s = omega (arith, more) in
      let within : j < length W.seconds = omega (arith, p, more, room) in
      let word = fills_word w more n.2 in
      let e = filled_entry s u u.next old in
      let fit : IsEntry (f + s) e = filled_has (IsEntry (f + s)) s u u.next old k.entry (first_word f s W u.block t k.block).0.0 in
      let free = k.free below in
      record {
        onward = (refl, omega arith);
        passed = omega (arith, p);
        table = table_second f s W j w t within word;
        under_way = record {
          block = k.block;
          low = k.low;
          range = k.range;
          high = k.high;
          entry = k.entry;
          last = k.last;
          group = k.group;
          room = subst (λ x. u.group * 2 ^ s + 2 ^ s ≤ x) (sym (length-set W.seconds j w)) k.room;
          free = λ _. free;
          old = λ _. k.old below;
          filled = λ _ r m. elim (cases_eq r u.next) [
            | inl z ↦ subst (λ x. entry_in (slice_index (slice_set W.seconds j w) (u.group * 2 ^ s + x)) ≡ filled_entry s u x old) (sym z)
                (ap (λ x. entry_in (slice_index (slice_set W.seconds j w) x)) (sym p) ∙ ap entry_in (get_or-set_same W.seconds j w 0 within) ∙ word_entry (f + s) w e fit n.2)
            | inr ne ↦ ap entry_in (get_or-set_other W.seconds j (u.group * 2 ^ s + r) w 0 (λ z. ne (omega (arith, z, p)))) ∙ k.filled below r (omega (arith, m, ne))
          ];
        };
        stands = λ E st. subst (λ x. Stands s u.from x u.rewrite (with_second W j w) E) (sym (reached_low s (next_place u) after))
            (subst (λ x. Stands s u.from u.from u.rewrite (with_second W x w) E) (sym p) (stands_along s u.from u.from u.rewrite W _ E (λ a. unseen s W u.group u.next w a more free)
            (subst (λ x. Stands s u.from x u.rewrite W E) (reached_low s u below) st)));
        groups = λ L known b low. known b low ∙ unlinked_yet s u.next (L b) (if b == u.block then Some u.group else L b) below
            ∙ sym (unlinked_yet s (u.next + 1) (L b) (if b == u.block then Some u.group else L b) after);
        held = λ b low. refl;
        left = λ _. omega (arith, more);
        stored = stored_second (IsNextSecond s (Link u) W j) W j w within n;
      }

  pub link_link : (i w : ℕ) → IsLinkStore s u i w → Steps f s (Link u) W (First i) (Link (next_place u)) (with_first W i w)
  link_link i w n =
      let full = n.0 in
      let here : u.block ≡ i = sym n.1 in
      let below : u.next ≤ 2 ^ s = omega (arith, full) in
      let past : 2 ^ s < u.next + 1 = omega (arith, full) in
      let block : i < 2 ^ f = subst (λ x. x < 2 ^ f) here k.block in
      let within : i < length W.firsts = subst (λ x. i < x) (sym t.words.firsts_len) block in
      let entry = word_entry (f + s) w (Group u.group) k.group n.2 in
      let now : group_at (slice_set W.firsts i w) i ≡ Some u.group = group_set_same W.firsts i w within ∙ ap group_in entry in
      let fill : (r : ℕ) → r < 2 ^ s → entry_in (slice_index W.seconds (u.group * 2 ^ s + r)) ≡ filled_entry s u r (entry_in (slice_index W.firsts u.block)) = λ r m.
      k.filled below r (omega (arith, m, full)) in
      let others : (b : ℕ) → b ≢ u.block → group_at (slice_set W.firsts i w) b ≡ group_at W.firsts b = λ b ne. group_set_other W.firsts i b w (λ q. ne (q ∙ n.1)) in
      record {
        onward = (refl, omega arith);
        passed = past;
        table = table_link f s W i u.group w t block k.group k.room n.2 (k.free below);
        under_way = record {
          block = k.block;
          low = k.low;
          range = k.range;
          high = k.high;
          entry = k.entry;
          last = k.last;
          group = k.group;
          room = k.room;
          free = λ low. absurd (omega (arith, low, past));
          old = λ low. absurd (omega (arith, low, past));
          filled = λ low. absurd (omega (arith, low, past));
        };
        stands = λ E st. subst (λ x. Stands s u.from x u.rewrite (with_first W i w) E) (sym (reached_high s (next_place u) past))
            (subst (λ x. Stands s u.from u.end u.rewrite (with_first W x w) E) here (stands_link s u.from u.end u.rewrite W E u.block u.group w
            (subst (λ x. x < length W.firsts) n.1 within) entry (k.old below) k.low k.range k.high fill
            (subst (λ x. Stands s u.from x u.rewrite W E) (reached_low s u below) st)));
        groups = λ L known b low.
            let was = known b low ∙ unlinked_yet s u.next (L b) (if b == u.block then Some u.group else L b) below in
            elim (cases_eq b u.block) [
              | inl q ↦ ap (group_at (slice_set W.firsts i w)) (q ∙ here) ∙ now ∙ sym (here_is b u.block (Some u.group) (L b) q)
              | inr ne ↦ others b ne ∙ was ∙ sym (there_is b u.block (Some u.group) (L b) ne)
            ]
            ∙ sym (linked_now s (u.next + 1) (L b) (if b == u.block then Some u.group else L b) past);
        held = λ b low. held_by b u.block (Some u.group) (group_at (slice_set W.firsts i w) b) (group_at W.firsts b) (others b);
        left = λ _. omega (arith, full);
        stored = stored_first (IsNextFirst f s (Link u) W i) W i w within n;
      }

pub block_small : (f b : ℕ) → b < 2 ^ f → f ≤ 32 → b < 2 ^ 32
block_small f b h l = let z : 2 ^ f ≤ 2 ^ 32 = pow_mono l in omega (arith, h, z)
