-- The steps of a range.
use Rattle.std.proofs.Common.{arith, ◌≡◌, ℕ, ◌+◌, ◌*◌, ◌/◌, ◌%◌, ◌^◌, ◌<◌, ◌≤◌, true, false, length, refl, ap, sym, ◌∙◌, subst, List, inl, inr}
use Rattle.std.specs.Prelude.{slice_index, slice_set}
use Rattle.std.proofs.lemmas.Nat.{pow_pos, shl_whole, mod_below, shr_below}
use Rattle.std.proofs.lemmas.List.{get_or_past}
use Rattle.lpm_bits.specs.Widths.{IsShape}
use Rattle.lpm_cells.specs.declared.entry.Entry.TheVariants.{Miss, Group}
use Rattle.lpm_cells.specs.Words.{IsEntry, IsLast, IsWord, IsLastWord, word_of, entry_in, Words, entry_at, last_entry, with_first, with_second}
use Rattle.lpm_cells.proofs.ReadBack.{entry_in_zero}
use Rattle.lpm_update.specs.declared.Did.TheVariants.{First, Second, Done, Unlinked}
use Rattle.lpm_update.specs.declared.rewrite.Rewrite.{Rewrite}
use Rattle.lpm_update.specs.declared.rewrite_range.RewriteRange.{RewriteRange}
use Rattle.lpm_update.specs.Rewrite.{replaces, Stands, Skips}
use Rattle.lpm_update.specs.Kinds.{IsRewriting, IsWhole, IsFirstStore, IsSecondStore, Visits, IsFurther}
use Rattle.lpm_update.specs.BlockGroups.{IsTable, IsLinkTo, group_at}
use Rattle.lpm_update.proofs.Places.{block_low, block_high, block_of, followed_last, in_group, whole_inside, whole_block, at_block, first_word, first_room, stored_first, stored_second, last_word, word_entry, stands_skip, stands_first, stands_second, table_first, table_second, whole_first}
use Rattle.std.proofs.lemmas.Bool.{cases_lt}
use Rattle.lpm_cells.specs.declared.entry.Entry.{Entry}
use Rattle.lpm_update.specs.declared.Did.{Did}
use Rattle.lpm_update.specs.declared.update.Plan.TheVariants.{Range}
use Rattle.lpm_update.specs.Step.{AllowsNext, Steps}
use Rattle.lpm_update.specs.Update.{IsNextFirst, IsNextSecond}
use Rattle.lpm_update.proofs.Groups.{first_within, keeps_groups, last_none}

-- A look at the next place of a range.

-- ---- words and places of a table

-- past the end a list of words has misses
pub past_group : (F : List ℕ) (i g : ℕ) → length F ≤ i → IsLinkTo F i g → ⊥
past_group F i g h e =
    let z : Miss ≡ Group g = sym entry_in_zero ∙ ap entry_in (sym (get_or_past F i 0 h)) ∙ e in
    cc

group_small : (f s : ℕ) (W : Words) (i g : ℕ) → IsTable f s W → i < 2 ^ f → IsLinkTo W.firsts i g → g < 2 ^ 24
group_small f s W i g t h e = subst (IsEntry (f + s)) e (first_word f s W i t h).0.0

pub base_of : (f s : ℕ) (W : Words) (i g : ℕ) → IsShape f s → IsTable f s W → i < 2 ^ f → IsLinkTo W.firsts i g → g * 2 ^ s % 18446744073709551616 ≡ g * 2 ^ s
base_of f s W i g p t h e = shl_whole g 24 s 64 (group_small f s W i g t h e) (let q = p.2 in omega arith)

-- the place of an address in the group of its block is one of the second table
pub place_within : (f s : ℕ) (W : Words) (g x : ℕ) → IsTable f s W → x / 2 ^ s < 2 ^ f → IsLinkTo W.firsts (x / 2 ^ s) g → g * 2 ^ s + x % 2 ^ s < length W.seconds
place_within f s W g x t h e =
    let r = mod_below x (2 ^ s) (pow_pos s) in
    let room : g * 2 ^ s + 2 ^ s ≤ length W.seconds = first_room f s W (x / 2 ^ s) g t h e in
    omega (arith, r, room)

-- a word that was loaded from a table is an entry's
pub first_is_word : (f s : ℕ) (W : Words) (i w : ℕ) → IsTable f s W → i < 2 ^ f → w ≡ slice_index W.firsts i → IsWord (f + s) w
first_is_word f s W i w t h e = subst (IsWord (f + s)) (sym e) (first_word f s W i t h).0

pub second_is_word : (f s : ℕ) (W : Words) (j w : ℕ) → IsTable f s W → j < length W.seconds → w ≡ slice_index W.seconds j → IsLastWord (f + s) w
second_is_word f s W j w t h e = subst (IsLastWord (f + s)) (sym e) (t.words.second_words j h)

-- ---- the bounds of the range

-- the same range, come to another bound
pub come_on : (f s from at next end : ℕ) (c : Rewrite) (F : List ℕ) → at ≤ next → next ≤ end → IsWhole s F next → IsRewriting f s from at end c F → IsRewriting f s from next end c F
come_on f s from at next end c F on within whole u = record {
  started = let h = u.started in omega (arith, h, on);
  within = within;
  fits = u.fits;
  entry = u.entry;
  last = u.last;
  whole_at = whole;
  whole_end = u.whole_end;
}

-- past block i, which has no group
pub past_first : (f s from at end : ℕ) (c : Rewrite) (F : List ℕ) (i : ℕ) → at ≤ i * 2 ^ s → i * 2 ^ s < end → IsLast (entry_in (slice_index F i)) → IsRewriting f s from at end c F
    → IsRewriting f s from (i * 2 ^ s + 2 ^ s) end c F
past_first f s from at end c F i low high l u = come_on f s from at (i * 2 ^ s + 2 ^ s) end c F (omega (arith, low)) (u.whole_end i l high) (whole_block s F i) u

-- past address x, whose block has a group
pub past_second : (f s from at end : ℕ) (c : Rewrite) (F : List ℕ) (g x : ℕ) → at ≤ x → x < end → IsLinkTo F (x / 2 ^ s) g → IsRewriting f s from at end c F
    → IsRewriting f s from (x + 1) end c F
past_second f s from at end c F g x low high e u =
    come_on f s from at (x + 1) end c F (omega (arith, low)) (omega (arith, high))
    (whole_inside s F (x / 2 ^ s) g (x + 1) e (omega (arith, block_low s x)) (omega (arith, block_high s x))) u

-- ---- the next place

module _ (f s : ℕ) (u : RewriteRange) (W : Words) (i : ℕ) (more : u.at < u.end) (k : IsRewriting f s u.from u.at u.end u.rewrite W.firsts) (p : i ≡ u.at / 2 ^ s)
    (l : IsLast (entry_in (slice_index W.firsts i))) where
  block_start : u.at ≡ i * 2 ^ s
  block_start = at_block s W.firsts u.at (subst (λ x. IsLast (entry_in (slice_index W.firsts x))) p l) k.whole_at ∙ ap (λ x. x * 2 ^ s) (sym p)

  -- the first word of a block with no group is stored
  pub visits_first : (w : ℕ) → replaces u.rewrite (entry_in (slice_index W.firsts i)) ≡ true → w ≡ word_of u.rewrite.entry → IsFirstStore s u.at u.end u.rewrite W i w
  visits_first w taken word =
      let b = block_start in
      record {
        low = omega (arith, b);
        high = omega (arith, b, more);
        replaced = taken;
        last = l;
        word = word;
        skipped = λ a low high. absurd (omega (arith, b, low, high));
      }

  pub visited_first : (W' : Words) (w v : ℕ) → i < length W.firsts → replaces u.rewrite (entry_in (slice_index W.firsts i)) ≡ true → w ≡ word_of u.rewrite.entry → v ≡ u.at + 2 ^ s
      → W' ≡ with_first W i w → Visits f s u W (First i) (record u { at = v }) W'
  visited_first W' w v within taken word e is =
      let h = stored_first (IsFirstStore s u.at u.end u.rewrite W i) W i w within (visits_first w taken word) in
      let p = pow_pos s in
      subst (Visits f s u W (First i) (record u { at = v })) (sym is) (record {
        further = record { from = refl; end = refl; rewrite = refl; at = omega (arith, e) };
        more = omega (arith, e, p);
        stored = (h.0, h.1, e ∙ ap (λ x. x + 2 ^ s) block_start);
      })

  -- or nothing of it is changed
  pub kept_first : (W' : Words) (v : ℕ) → replaces u.rewrite (entry_in (slice_index W.firsts i)) ≡ false → v ≡ u.at + 2 ^ s → W' ≡ W → Visits f s u W Done (record u { at = v }) W'
  kept_first W' v kept e is =
      let b = block_start in
      let p = pow_pos s in
      subst (Visits f s u W Done (record u { at = v })) (sym is) (record {
        further = record { from = refl; end = refl; rewrite = refl; at = omega (arith, e) };
        more = omega (arith, e, p);
        stored = (
          subst (λ x. IsRewriting f s u.from x u.end u.rewrite W.firsts) (omega (arith, b, e)) (past_first f s u.from u.at u.end u.rewrite W.firsts i (omega (arith, b)) (omega (arith, b, more)) l k),
          λ a low high.
              let here = block_of s a i (omega (arith, b, low)) (omega (arith, b, e, high)) in
              ap (replaces u.rewrite) (ap (λ x. last_entry s W.seconds (a % 2 ^ s) (entry_in (slice_index W.firsts x))) here ∙ followed_last s W.seconds (a % 2 ^ s) _ l) ∙ kept,
        );
      })

module _ (f s : ℕ) (u : RewriteRange) (W : Words) (g j : ℕ) (more : u.at < u.end) (k : IsRewriting f s u.from u.at u.end u.rewrite W.firsts) (e : IsLinkTo W.firsts (u.at / 2 ^ s) g)
    (p : j ≡ g * 2 ^ s + u.at % 2 ^ s) where
  -- the word of the next address in a group is stored
  pub visits_second : (w : ℕ) → replaces u.rewrite (entry_in (slice_index W.seconds j)) ≡ true → w ≡ word_of u.rewrite.entry → IsSecondStore s u.at u.end u.rewrite W g u.at j w
  visits_second w taken word = record {
    low = omega arith;
    high = more;
    group = e;
    place = p;
    replaced = taken;
    word = word;
    skipped = λ a low high. absurd (omega (arith, low, high));
  }

  pub visited_second : (W' : Words) (w : ℕ) → j < length W.seconds → replaces u.rewrite (entry_in (slice_index W.seconds j)) ≡ true → w ≡ word_of u.rewrite.entry → W' ≡ with_second W j w
      → Visits f s u W (Second j) (record u { at = u.at + 1 }) W'
  visited_second W' w within taken word is =
      let h = stored_second (IsSecondStore s u.at u.end u.rewrite W g u.at j) W j w within (visits_second w taken word) in
      subst (Visits f s u W (Second j) (record u { at = u.at + 1 })) (sym is) (record {
        further = record { from = refl; end = refl; rewrite = refl; at = omega arith };
        more = omega arith;
        stored = (g, u.at, h.0, h.1, refl);
      })

  -- or stays
  pub kept_second : (W' : Words) → replaces u.rewrite (entry_in (slice_index W.seconds j)) ≡ false → W' ≡ W → Visits f s u W Done (record u { at = u.at + 1 }) W'
  kept_second W' kept is = subst (Visits f s u W Done (record u { at = u.at + 1 })) (sym is) (record {
    further = record { from = refl; end = refl; rewrite = refl; at = omega arith };
    more = omega arith;
    stored = (
      past_second f s u.from u.at u.end u.rewrite W.firsts g u.at (omega arith) more e k,
      λ a low high.
          let z : a ≡ u.at = omega (arith, low, high) in
          ap (λ x. replaces u.rewrite (entry_at s W x)) z ∙ ap (replaces u.rewrite) (in_group s W g u.at e ∙ ap (λ x. entry_in (slice_index W.seconds x)) (sym p)) ∙ kept,
    );
  })

pub further_same : (u : RewriteRange) → IsFurther u u
further_same u = record { from = refl; end = refl; rewrite = refl; at = omega arith }

pub further_on : (u m v : RewriteRange) → IsFurther u m → IsFurther m v → IsFurther u v
further_on u m v a b = record {
  from = b.from ∙ a.from;
  end = b.end ∙ a.end;
  rewrite = b.rewrite ∙ a.rewrite;
  at = let p = a.at in let q = b.at in omega (arith, p, q);
}

-- the same range, further on
moved : (f s : ℕ) (u v : RewriteRange) (F : List ℕ) → IsFurther u v → IsRewriting f s u.from v.at u.end u.rewrite F → IsRewriting f s v.from v.at v.end v.rewrite F
moved f s u v F fu k =
    let e1 = fu.from in
    let e2 = fu.end in
    let e3 = fu.rewrite in
    rw (e1, e2, e3) k

pub moved_stands : (s : ℕ) (u v : RewriteRange) (W : Words) → IsFurther u v → (E : ℕ → Entry) → Stands s u.from v.at u.rewrite W E → Stands s v.from v.at v.rewrite W E
moved_stands s u v W fu E k =
    let e1 = fu.from in
    let e3 = fu.rewrite in
    rw (e1, e3) k

-- ---- after one store

module _ (f s : ℕ) (u v : RewriteRange) (W : Words) (t : IsTable f s W) (k : IsRewriting f s u.from u.at u.end u.rewrite W.firsts) (fu : IsFurther u v) where
  pub range_first : (i w : ℕ) → IsFirstStore s u.at u.end u.rewrite W i w → v.at ≡ i * 2 ^ s + 2 ^ s → Steps f s (Range u) W (First i) (Range v) (with_first W i w)
  range_first i w n at =
      let c = u.rewrite in
      let low = n.low in
      let high = n.high in
      let started = k.started in
      let end = fu.end in
      let p = pow_pos s in
      let block = first_within f s i u.end high k.fits in
      let within : i < length W.firsts = subst (λ x. i < x) (sym t.words.firsts_len) block in
      let word = last_word (f + s) w c.entry k.entry k.last n.word in
      let past = past_first f s u.from u.at u.end c W.firsts i low high n.last k in
      let same : (b : ℕ) → group_at (slice_set W.firsts i w) b ≡ group_at W.firsts b = λ b. keeps_groups W.firsts i b w within (last_none _ n.last) word.1 in
      record {
        onward = fu;
        passed = omega (arith, at, p);
        table = table_first f s W i w t block word;
        under_way = moved f s u v (slice_set W.firsts i w) fu (subst (λ x. IsRewriting f s u.from x u.end c (slice_set W.firsts i w)) (sym at) (record {
          started = past.started;
          within = past.within;
          fits = past.fits;
          entry = past.entry;
          last = past.last;
          whole_at = whole_first s W.firsts i w (i * 2 ^ s + 2 ^ s) n.last past.whole_at;
          whole_end = whole_first s W.firsts i w u.end n.last past.whole_end;
        }));
        stands = λ E st. moved_stands s u v (with_first W i w) fu E (subst (λ x. Stands s u.from x c (with_first W i w) E) (sym at)
            (stands_first s u.from (i * 2 ^ s) c W E i w (omega (arith, low, started)) refl within n.last n.replaced (word_entry (f + s) w c.entry k.entry n.word) k.last
            (stands_skip s u.from u.at (i * 2 ^ s) c W E low n.skipped st)));
        groups = λ L known b below. same b ∙ known b below;
        held = λ b below. same b;
        left = λ _. omega (arith, at, low, high, end, p);
        stored = stored_first (IsNextFirst f s (Range u) W i) W i w within n;
      }

  pub range_second : (g x j w : ℕ) → IsSecondStore s u.at u.end u.rewrite W g x j w → v.at ≡ x + 1 → Steps f s (Range u) W (Second j) (Range v) (with_second W j w)
  range_second g x j w n at =
      let c = u.rewrite in
      let low = n.low in
      let high = n.high in
      let started = k.started in
      let end = fu.end in
      let here : x / 2 ^ s < 2 ^ f = shr_below x f s (let z = k.fits in omega (arith, z, high)) in
      let within : j < length W.seconds = subst (λ y. y < length W.seconds) (sym n.place) (place_within f s W g x t here n.group) in
      let once : (a : ℕ) → IsLinkTo W.firsts (a / 2 ^ s) g → a / 2 ^ s ≡ x / 2 ^ s = λ a z. elim (cases_lt (a / 2 ^ s) (2 ^ f)) [
        | inl below ↦ t.linked_once (a / 2 ^ s) (x / 2 ^ s) g below here z n.group
        | inr above ↦ absurd (past_group W.firsts (a / 2 ^ s) g (subst (λ y. y ≤ a / 2 ^ s) (sym t.words.firsts_len) above) z)
      ] in
      record {
        onward = fu;
        passed = (g, x, omega (arith, at), n.group, n.place);
        table = table_second f s W j w t within (last_word (f + s) w c.entry k.entry k.last n.word);
        under_way = moved f s u v W.firsts fu (subst (λ y. IsRewriting f s u.from y u.end c W.firsts) (sym at) (past_second f s u.from u.at u.end c W.firsts g x low high n.group k));
        stands = λ E st. moved_stands s u v (with_second W j w) fu E (subst (λ y. Stands s u.from y c (with_second W j w) E) (sym at)
            (stands_second s u.from x c W E g j w (omega (arith, low, started)) n.group n.place within once n.replaced (word_entry (f + s) w c.entry k.entry n.word)
            (stands_skip s u.from u.at x c W E low n.skipped st)));
        groups = λ L known. known;
        held = λ b below. refl;
        left = λ _. omega (arith, at, low, high, end);
        stored = stored_second (IsNextSecond s (Range u) W j) W j w within (g, x, n);
      }

  -- nothing is left to store
  pub range_done : IsRewriting f s v.from v.at v.end v.rewrite W.firsts → Skips s u.rewrite W u.at v.at → v.at ≡ v.end → Steps f s (Range u) W Done (Range v) W
  range_done now skips over = record {
    onward = fu;
    passed = tt;
    table = t;
    under_way = now;
    stands = λ E st. moved_stands s u v W fu E (stands_skip s u.from u.at v.at u.rewrite W E fu.at skips st);
    groups = λ L known. known;
    held = λ b below. refl;
    left = λ n. absurd (n refl);
    stored = (refl, record { reached = over; groups = λ L i below. refl });
  }

-- ---- after a look that changed nothing

pub skips_join : (s low mid high : ℕ) (c : Rewrite) (W : Words) → Skips s c W low mid → Skips s c W mid high → Skips s c W low high
skips_join s low mid high c W p q = λ a l h. elim (cases_lt a mid) [ inl below ↦ p a l below | inr above ↦ q a above h ]

module _ (s : ℕ) (u m : RewriteRange) (W : Words) (fu : IsFurther u m) (k : Skips s u.rewrite W u.at m.at) where
  mid_first : (i w : ℕ) → IsFirstStore s m.at m.end m.rewrite W i w → IsFirstStore s u.at u.end u.rewrite W i w
  mid_first i w n =
      let h : IsFirstStore s m.at u.end u.rewrite W i w = subst (λ x. IsFirstStore s m.at x u.rewrite W i w) fu.end (subst (λ x. IsFirstStore s m.at m.end x W i w) fu.rewrite n) in
      record {
        low = let p = fu.at in let q = h.low in omega (arith, p, q);
        high = h.high;
        replaced = h.replaced;
        last = h.last;
        word = h.word;
        skipped = skips_join s u.at m.at _ u.rewrite W k h.skipped;
      }

  mid_second : (g x j w : ℕ) → IsSecondStore s m.at m.end m.rewrite W g x j w → IsSecondStore s u.at u.end u.rewrite W g x j w
  mid_second g x j w n =
      let h : IsSecondStore s m.at u.end u.rewrite W g x j w = subst (λ y. IsSecondStore s m.at y u.rewrite W g x j w) fu.end (subst (λ y. IsSecondStore s m.at m.end y W g x j w) fu.rewrite n) in
      record {
        low = let p = fu.at in let q = h.low in omega (arith, p, q);
        high = h.high;
        group = h.group;
        place = h.place;
        replaced = h.replaced;
        word = h.word;
        skipped = skips_join s u.at m.at _ u.rewrite W k h.skipped;
      }

  pub mid_allows : (f : ℕ) (P Q : ℕ → ℕ → Type 0) → AllowsNext f s (Range u) W P Q → AllowsNext f s (Range m) W P Q
  mid_allows f P Q a = record {
    first_word = λ i w n. a.first_word i w (mid_first i w n);
    second_word = λ j w n. a.second_word j w (n.0, n.1, mid_second n.0 n.1 j w n.2);
    unlink = λ b g w n. absurd n;
  }

  pub mid_steps : (f : ℕ) (did : Did) (v : RewriteRange) (W' : Words) → IsTable f s W → IsRewriting f s u.from u.at u.end u.rewrite W.firsts → (did ≡ Done → ⊥) → Visits f s m W did v W'
      → Steps f s (Range u) W did (Range v) W'
  mid_steps f (First i) v W' t now n h =
      subst (Steps f s (Range u) W (First i) (Range v)) (sym h.stored.1) (range_first f s u v W t now (further_on u m v fu h.further) i _ (mid_first i _ h.stored.0) h.stored.2)
  mid_steps f (Second j) v W' t now n h =
      subst (Steps f s (Range u) W (Second j) (Range v)) (sym h.stored.3)
      (range_second f s u v W t now (further_on u m v fu h.further) h.stored.0 h.stored.1 j _ (mid_second h.stored.0 h.stored.1 j _ h.stored.2) h.stored.4)
  mid_steps f (Unlinked b g) v W' t now n h = absurd h.stored
  mid_steps f Done v W' t now n h = absurd (n refl)
