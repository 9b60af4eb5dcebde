-- The steps of a flush, upwards over the first words.
use Rattle.std.proofs.Common.{arith, ◌≡◌, ◌≢◌, ℕ, suc, ◌+◌, ◌-◌, ◌*◌, ◌/◌, ◌%◌, ◌^◌, ◌<◌, ◌≤◌, inl, inr, refl, ap, sym, ◌∙◌, subst, length, None, Some}
use Rattle.std.specs.Prelude.{slice_index}
use Rattle.std.proofs.lemmas.Bool.{cases_lt}
use Rattle.std.proofs.lemmas.Nat.{pow-add}
use Rattle.std.proofs.Math.Nat.{mul-le-mul_right}
use Rattle.lpm_cells.specs.declared.entry.Entry.{Entry}
use Rattle.lpm_cells.specs.declared.entry.Entry.TheVariants.{Miss, Hop, Group}
use Rattle.lpm_cells.specs.Words.{entry_in, word_of, IsLast, IsLastWord, Words, entry_at, last_entry, with_first}
use Rattle.lpm_update.specs.declared.Did.{Did}
use Rattle.lpm_update.specs.declared.Did.TheVariants.{First, Unlinked, Done}
use Rattle.lpm_update.specs.declared.flush.Flush.{Flush as FlushData}
use Rattle.lpm_update.specs.declared.update.Plan.TheVariants.{Flush}
use Rattle.lpm_update.specs.Rewrite.{rewritten_entry, Stands}
use Rattle.lpm_update.specs.BlockGroups.{IsTable, group_at}
use Rattle.lpm_update.specs.Kinds.{rewrite_to_miss, AllMiss, IsFlushStore}
use Rattle.lpm_update.specs.Update.{IsNextFirst, IsNextUnlink, group_held}
use Rattle.lpm_update.specs.Step.{HasPassed, HeldAlong, Steps, StoresNext}
use Rattle.lpm_update.proofs.Places.{block_low, block_high, block_of, first_same, first_other, first_word, last_word, word_entry, table_first, stored_first}
use Rattle.lpm_update.proofs.Groups.{gives_up, keeps_groups, flush_groups, flushed_by, misses_groups}

pub flushed_miss : (e : Entry) → rewritten_entry rewrite_to_miss e ≡ Miss
flushed_miss Miss = refl
flushed_miss (Hop hop depth) = refl
flushed_miss (Group group) = refl

-- an address whose block is below m stands below the m-th block's first
below_block : (s a m : ℕ) → a < m * 2 ^ s → a / 2 ^ s < m
below_block s a m h = elim (cases_lt (a / 2 ^ s) m) [
  | inl below ↦ below
  | inr above ↦ let z = mul-le-mul_right (2 ^ s) above in absurd (omega (arith, z, h, block_low s a))
]

above_block : (s a m : ℕ) → m * 2 ^ s ≤ a → m ≤ a / 2 ^ s
above_block s a m h = elim (cases_lt (a / 2 ^ s) m) [
  | inl below ↦
      let z = mul-le-mul_right (2 ^ s) below in
      let one : suc (a / 2 ^ s) * 2 ^ s ≡ a / 2 ^ s * 2 ^ s + 2 ^ s = omega arith in
      absurd (omega (arith, z, one, h, block_high s a))
  | inr above ↦ above
]

-- over words that are misses
skip_misses : (s n m : ℕ) (W : Words) (E : ℕ → Entry) → n ≤ m → AllMiss W.firsts n m → Stands s 0 (n * 2 ^ s) rewrite_to_miss W E → Stands s 0 (m * 2 ^ s) rewrite_to_miss W E
skip_misses s n m W E l misses t =
    let le = mul-le-mul_right (2 ^ s) l in
    record {
      before = λ a h. absurd (omega (arith, h));
      done = λ a low h. elim (cases_lt a (n * 2 ^ s)) [
        | inl below ↦ t.done a low below
        | inr above ↦ ap (last_entry s W.seconds (a % 2 ^ s)) (misses (a / 2 ^ s) (above_block s a n above) (below_block s a m h)) ∙ sym (flushed_miss (E a))
      ];
      todo = λ a h. t.todo a (omega (arith, le, h));
    }

-- a store of a miss
store_miss : (s i w : ℕ) (W : Words) (E : ℕ → Entry) → i < length W.firsts → entry_in w ≡ Miss → Stands s 0 (i * 2 ^ s) rewrite_to_miss W E
    → Stands s 0 ((i + 1) * 2 ^ s) rewrite_to_miss (with_first W i w) E
store_miss s i w W E within miss t =
    let one : (i + 1) * 2 ^ s ≡ i * 2 ^ s + 2 ^ s = omega arith in
    let other : (a : ℕ) → a / 2 ^ s ≢ i → entry_at s (with_first W i w) a ≡ entry_at s W a = λ a n. first_other s W i w a n in
    record {
      before = λ a h. absurd (omega (arith, h));
      done = λ a low h. elim (cases_lt a (i * 2 ^ s)) [
        | inl below ↦ other a (λ e. absurd (omega (arith, below_block s a i below, e))) ∙ t.done a low below
        | inr above ↦ first_same s W i w a within (block_of s a i above (omega (arith, one, h))) (subst (λ (e : Entry). IsLast e) (sym miss) tt) ∙ miss ∙ sym (flushed_miss (E a))
      ];
      todo = λ a h. other a (λ e. absurd (omega (arith, above_block s a (i + 1) h, e))) ∙ t.todo a (omega (arith, one, h));
    }

pub miss_word : (width w : ℕ) → w ≡ word_of Miss → entry_in w ≡ Miss
miss_word width w e = word_entry width w Miss tt e

-- a word of the table that isn't a miss's word is no miss
pub not_miss : (f s : ℕ) (W : Words) (i : ℕ) → IsTable f s W → i < 2 ^ f → slice_index W.firsts i ≢ word_of Miss → entry_in (slice_index W.firsts i) ≢ Miss
not_miss f s W i t h n e = n (sym (first_word f s W i t h).0.1 ∙ ap word_of e)

-- ---- the steps

-- the flush that has come to that place
abbrev pub come_to : ℕ → FlushData
come_to i = record { next = i }

module _ (f s : ℕ) (u : FlushData) (W : Words) (t : IsTable f s W) where
  module _ (i w : ℕ) (n : IsFlushStore f u.next W.firsts i w) where
    last : IsLastWord (f + s) w
    last = last_word (f + s) w Miss tt tt n.word

    within : i < length W.firsts
    within = subst (λ k. i < k) (sym t.words.firsts_len) n.high

    stands : (E : ℕ → Entry) → Stands s 0 (u.next * 2 ^ s) rewrite_to_miss W E → Stands s 0 ((i + 1) * 2 ^ s) rewrite_to_miss (with_first W i w) E
    stands E st = store_miss s i w W E within (miss_word (f + s) w n.word) (skip_misses s u.next i W E n.low n.skipped st)

    further : u.next ≤ i + 1
    further = let low = n.low in omega (arith, low)

    left : 2 ^ f - (i + 1) < 2 ^ f - u.next
    left = let low = n.low in let high = n.high in omega (arith, low, high)

    stores : (did : Did) → HasPassed s did (Flush (come_to (i + 1))) (with_first W i w).firsts → HeldAlong f did (group_held (Flush u) W.firsts) (group_held (Flush (come_to (i + 1))) (with_first W i w).firsts)
        → StoresNext f s did (Flush u) W (Flush (come_to (i + 1))) (with_first W i w) → Steps f s (Flush u) W did (Flush (come_to (i + 1))) (with_first W i w)
    stores did passed held stored = record {
      onward = further;
      passed = passed;
      table = table_first f s W i w t n.high last;
      under_way = let high = n.high in omega (arith, high);
      stands = stands;
      groups = λ L known b low. flush_groups u.next i w b W.firsts (L b) within n.low n.skipped last.1 (known b low);
      held = held;
      left = λ _. left;
      stored = stored;
    }

    pub flush_first : group_at W.firsts i ≡ None → Steps f s (Flush u) W (First i) (Flush (come_to (i + 1))) (with_first W i w)
    flush_first none =
        stores (First i) (omega arith) (λ b low. keeps_groups W.firsts i b w within none last.1) (stored_first (IsNextFirst f s (Flush u) W i) W i w within (n, none))

    pub flush_unlink : (g : ℕ) → group_at W.firsts i ≡ Some g → Steps f s (Flush u) W (Unlinked i g) (Flush (come_to (i + 1))) (with_first W i w)
    flush_unlink g some =
        stores (Unlinked i g) (omega arith) (gives_up f W.firsts i g w n.high within some last.1) (stored_first (IsNextUnlink f s (Flush u) W i g) W i w within (n, some))

  pub flush_done : (v : FlushData) → u.next ≤ v.next → v.next ≡ 2 ^ f → AllMiss W.firsts u.next v.next → Steps f s (Flush u) W Done (Flush v) W
  flush_done v low over misses = record {
    onward = low;
    passed = tt;
    table = t;
    under_way = omega (arith, over);
    stands = λ E st. skip_misses s u.next v.next W E low misses st;
    groups = λ L known b below. misses_groups u.next v.next b W.firsts (L b) low misses (known b below);
    held = λ b below. refl;
    left = λ n. absurd (n refl);
    stored = (refl, record { reached = ap (λ x. x * 2 ^ s) over ∙ sym (pow-add 2 f s); groups = λ L b below. flushed_by b v.next (L b) (omega (arith, below, over)) });
  }
