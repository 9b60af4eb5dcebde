-- Where each word of the world lies, after a store of the writer and at the start.
use Rattle.std.proofs.Common.{◌≡◌, ◌≢◌, ℕ, zero, suc, ◌+◌, ◌*◌, ◌/◌, ◌%◌, ◌^◌, ◌<◌, ◌⊎◌, inl, inr, List, length, slice_index, slice_set, refl, ap, ◌∙◌, arith, [], ◌∷◌, ◌++◌, replicate, sym}
use Rattle.std.proofs.lemmas.List.{get_or-set_same, length-map, get_or-set_other, length-set, get_or_append_left, get_or-append-add, get_or-replicate, length-append, length-replicate}
use Rattle.std.proofs.lemmas.List.FromFn.{get_or-map-range_with_len, length-range_with_len}
use Rattle.std.specs.List.{range_with_len}
use Rattle.lpm_trace.proofs.Versions.{set_case}
use Rattle.shared_words.specs.Layout.{half, pairs, pair_at, packed_words, IsLaidOut, word_count, first_at, second_at, sequence_at, token_at, counter_at, initial_words, InitialData, initial_state_of}
use Rattle.lpm_cells.specs.Words.{Words}
use Rattle.lpm_trace.specs.declared.step.WriterStep.{WriterStep}
use Rattle.lpm_trace.specs.declared.step.WriterStep.TheVariants.{StoreFirst, StoreSecond, BeginUpdate, EndUpdate, BumpToken, LoadCounter}
use Rattle.lpm_trace.specs.declared.step.TraceStep.TheVariants.{Writer as ByWriter}
use Rattle.lpm_trace.specs.States.{InitialState, TableState, state_after}
use Rattle.lpm_trace.specs.Progress.{WriterProgress}
use Rattle.lpm_trace.specs.Trace.{World, apply, after}
pub use Rattle.lpm_trace.proofs.Versions.{firsts_length}

-- Two table words that share a word of the table.

-- ---- the halves of a word

-- the place says which half by whether it is even
pub half_even : (k w : ℕ) → k % 2 ≡ 0 → half k w ≡ w % 2 ^ 32
half_even k w e =
    let low : half k w ≡ w / 1 % 2 ^ 32 = ap (λ (side : ℕ). w / 2 ^ (side * 32) % 2 ^ 32) e in
    omega (arith, low)

pub half_odd : (k w : ℕ) → k % 2 ≡ 1 → half k w ≡ w / 2 ^ 32 % 2 ^ 32
half_odd k w e = ap (λ (side : ℕ). w / 2 ^ (side * 32) % 2 ^ 32) e

pub even_or_odd : (k : ℕ) → (k % 2 ≡ 0) ⊎ (k % 2 ≡ 1)
even_or_odd zero = inl refl
even_or_odd (suc k) = elim (even_or_odd k) [
  | inl even ↦ inr (omega (arith, even))
  | inr odd ↦ inl (omega (arith, odd))
]

-- ---- the words that the words of a table share

pub packed_length : (xs : List ℕ) → length (packed_words xs) ≡ pairs (length xs)
packed_length xs =
    length-map (range_with_len 0 (pairs (length xs))) (pair_at xs) ∙ length-range_with_len 0 (pairs (length xs))

pub packed_at : (xs : List ℕ) (q : ℕ) → q < pairs (length xs) → slice_index (packed_words xs) q ≡ pair_at xs q
packed_at xs q low = get_or-map-range_with_len (pair_at xs) 0 (pairs (length xs)) q q 0 low (omega arith)

-- the low half of a sum, and the high one
pub low_half : (k a b w : ℕ) → k % 2 ≡ 0 → a < 2 ^ 32 → w ≡ a + b * 2 ^ 32 → half k w ≡ a
low_half k a b w even low is = let h = half_even k w even in omega (arith, h, low, is)

pub high_half : (k a b w : ℕ) → k % 2 ≡ 1 → a < 2 ^ 32 → b < 2 ^ 32 → w ≡ a + b * 2 ^ 32 → half k w ≡ b
high_half k a b w odd low high is = let h = half_odd k w odd in omega (arith, h, low, high, is)

-- each table word is a half of the word that it shares
pub packed_half : (xs : List ℕ) → ((i : ℕ) → i < length xs → slice_index xs i < 2 ^ 32)
    → (k : ℕ) → k < length xs → half k (slice_index (packed_words xs) (k / 2)) ≡ slice_index xs k
packed_half xs small k inside =
    let q : ℕ = k / 2 in
    let is = packed_at xs q (omega (arith, inside)) in
    elim (even_or_odd k) [
      | inl even ↦
          let here : 2 * q ≡ k = omega (arith, even) in
          low_half k _ _ _ even (small (2 * q) (omega (arith, here, inside))) is ∙ ap (slice_index xs) here
      | inr odd ↦
          let here : 2 * q + 1 ≡ k = omega (arith, odd) in
          high_half k _ _ _ odd (small (2 * q) (omega (arith, here, inside)))
          (small (2 * q + 1) (omega (arith, here, inside))) is ∙ ap (slice_index xs) here
    ]

-- ---- stores

-- a half of a word, after word n was stored at place p
pub half_beside : (words : List ℕ) (p n q k y : ℕ) → p < length words → (q ≡ p → half k n ≡ y)
    → half k (slice_index words q) ≡ y → half k (slice_index (slice_set words p n) q) ≡ y
half_beside words p n q k y low here is =
    set_case (λ (w : ℕ). half k w ≡ y) words p n q low here (λ ne. is)

-- table word x is stored at place i of its table, by word n at place p of the words
pub half_stored : (words ts : List ℕ) (p n q i x j : ℕ) → p < length words → i < length ts
    → half i n ≡ x → (j ≡ i → q ≡ p) → (j ≢ i → q ≡ p → half j n ≡ slice_index ts j)
    → half j (slice_index words q) ≡ slice_index ts j
    → half j (slice_index (slice_set words p n) q) ≡ slice_index (slice_set ts i x) j
half_stored words ts p n q i x j low inside stored same kept is =
    set_case (λ (y : ℕ). half j (slice_index (slice_set words p n) q) ≡ y) ts i x j inside
    (λ e. ap (λ (z : ℕ). half j (slice_index (slice_set words p n) z)) (same e)
    ∙ ap (half j) (get_or-set_same words p n 0 low) ∙ ap (λ (k : ℕ). half k n) e ∙ stored)
    (λ ne. half_beside words p n q j (slice_index ts j) low (kept ne) is)

-- no step changes how many second words there are
pub seconds_length : (c : InitialState) (seen : List WriterStep)
    → length (state_after c seen).words.seconds ≡ length c.words.seconds
seconds_length c [] = refl
seconds_length c (StoreFirst i x ∷ seen) = seconds_length c seen
seconds_length c (StoreSecond j x ∷ seen) =
    length-set (state_after c seen).words.seconds j x ∙ seconds_length c seen
seconds_length c (BeginUpdate change ∷ seen) = seconds_length c seen
seconds_length c (EndUpdate ∷ seen) = seconds_length c seen
seconds_length c (BumpToken ∷ seen) = seconds_length c seen
seconds_length c (LoadCounter token worker counter ∷ seen) = seconds_length c seen

-- a word elsewhere
beside : (words : List ℕ) (p x q y : ℕ) → q ≢ p → slice_index words q ≡ y
    → slice_index (slice_set words p x) q ≡ y
beside words p x q y ne is = get_or-set_other words p q x 0 ne ∙ is

-- a half of a word elsewhere
half_away : (words : List ℕ) (p x q k y : ℕ) → q ≢ p → half k (slice_index words q) ≡ y
    → half k (slice_index (slice_set words p x) q) ≡ y
half_away words p x q k y ne is = ap (half k) (get_or-set_other words p q x 0 ne) ∙ is

module _ (o : InitialData) (words : List ℕ) (w : World) (laid : IsLaidOut o words w) where
  -- word x is stored at place i of the first table, by word n, which keeps the neighbour
  pub lays_first : (i x n : ℕ) → i < length o.firsts → half i n ≡ x
      → ((k : ℕ) → k < length o.firsts → first_at k ≡ first_at i → k ≢ i
      → half k n ≡ slice_index w.state.words.firsts k)
      → IsLaidOut o (slice_set words (first_at i) n) (apply (initial_state_of o) w (ByWriter (StoreFirst i x)))
  lays_first i x n inside stored kept =
      let at : ℕ = first_at i in
      let away = beside words at n in
      let low : at < length words = omega (arith, inside, laid.count) in
      let low' : i < length w.state.words.firsts = omega (arith, inside, laid.firsts_len) in
      record {
        count = length-set words at n ∙ laid.count;
        firsts_len = length-set w.state.words.firsts i x ∙ laid.firsts_len;
        seconds_len = laid.seconds_len;
        firsts = λ j lt. half_stored words w.state.words.firsts at n (first_at j) i x j low low' stored
            (ap first_at) (λ ne e. kept j lt e ne) (laid.firsts j lt);
        seconds = λ j lt. half_away words at n (second_at o j) j _ (λ e. omega (arith, e, inside))
            (laid.seconds j lt);
        sequence = away sequence_at _ (λ e. omega (arith, e, inside)) laid.sequence;
        token = away token_at _ (λ e. omega (arith, e, inside)) laid.token;
        counters = λ k lt. away (counter_at o k) _ (λ e. omega (arith, e, inside)) (laid.counters k lt);
      }

  -- word x is stored at place j of the second table, by word n, which keeps the neighbour
  pub lays_second : (j x n : ℕ) → j < length o.seconds → half j n ≡ x
      → ((k : ℕ) → k < length o.seconds → second_at o k ≡ second_at o j → k ≢ j
      → half k n ≡ slice_index w.state.words.seconds k)
      → IsLaidOut o (slice_set words (second_at o j) n) (apply (initial_state_of o) w (ByWriter (StoreSecond j x)))
  lays_second j x n inside stored kept =
      let at : ℕ = second_at o j in
      let away = beside words at n in
      let low : at < length words = omega (arith, inside, laid.count) in
      let low' : j < length w.state.words.seconds = omega (arith, inside, laid.seconds_len) in
      record {
        count = length-set words at n ∙ laid.count;
        firsts_len = laid.firsts_len;
        seconds_len = length-set w.state.words.seconds j x ∙ laid.seconds_len;
        firsts = λ i lt. half_away words at n (first_at i) i _ (λ e. omega (arith, e, lt)) (laid.firsts i lt);
        seconds = λ i lt. half_stored words w.state.words.seconds at n (second_at o i) j x i low low' stored
            (ap (second_at o)) (λ ne e. kept i lt e ne) (laid.seconds i lt);
        sequence = away sequence_at _ (λ e. omega (arith, e, inside)) laid.sequence;
        token = away token_at _ (λ e. omega (arith, e, inside)) laid.token;
        counters = λ k lt. away (counter_at o k) _ (λ e. omega (arith, e, inside)) (laid.counters k lt);
      }

  -- the sequence or the token changes
  low_word : (p n : ℕ) → p < 2 → (t : TableState) (progress : WriterProgress)
      → slice_index (slice_set words p n) sequence_at ≡ t.sequence
      → slice_index (slice_set words p n) token_at ≡ t.token
      → IsLaidOut o (slice_set words p n) (record {
        state = record t { words = w.state.words };
        progress = progress;
        workers = w.workers;
      })
  low_word p n low t progress sequence token = record {
    count = length-set words p n ∙ laid.count;
    firsts_len = laid.firsts_len;
    seconds_len = laid.seconds_len;
    firsts = λ i lt. half_away words p n (first_at i) i _ (λ e. omega (arith, e, low)) (laid.firsts i lt);
    seconds = λ j lt. half_away words p n (second_at o j) j _ (λ e. omega (arith, e, low)) (laid.seconds j lt);
    sequence = sequence;
    token = token;
    counters = λ k lt. beside words p n (counter_at o k) _ (λ e. omega (arith, e, low)) (laid.counters k lt);
  }

  pub lays_sequence : (t : TableState) (progress : WriterProgress)
      → IsLaidOut o (slice_set words sequence_at t.sequence) (record {
        state = record t { words = w.state.words; token = w.state.token };
        progress = progress;
        workers = w.workers;
      })
  lays_sequence t progress =
      low_word sequence_at t.sequence (omega arith) (record t { token = w.state.token }) progress
      (get_or-set_same words sequence_at t.sequence 0 (omega (arith, laid.count)))
      (beside words sequence_at t.sequence token_at _ (λ e. omega (arith, e)) laid.token)

  pub lays_token : (t : TableState) (progress : WriterProgress)
      → IsLaidOut o (slice_set words token_at t.token) (record {
        state = record t { words = w.state.words; sequence = w.state.sequence };
        progress = progress;
        workers = w.workers;
      })
  lays_token t progress =
      low_word token_at t.token (omega arith) (record t { sequence = w.state.sequence }) progress
      (beside words token_at t.token sequence_at _ (λ e. omega (arith, e)) laid.sequence)
      (get_or-set_same words token_at t.token 0 (omega (arith, laid.count)))

  -- no word changes
  pub lays_same : (z : World) → z.state.words ≡ w.state.words → z.state.sequence ≡ w.state.sequence
      → z.state.token ≡ w.state.token → ((k : ℕ) → (z.workers k).counter ≡ (w.workers k).counter)
      → IsLaidOut o words z
  lays_same z same sequence token counters =
      let firsts = λ (i : ℕ). ap (λ (t : Words). slice_index t.firsts i) (sym same) in
      let seconds = λ (j : ℕ). ap (λ (t : Words). slice_index t.seconds j) (sym same) in
      record {
        count = laid.count;
        firsts_len = ap (λ (t : Words). length t.firsts) same ∙ laid.firsts_len;
        seconds_len = ap (λ (t : Words). length t.seconds) same ∙ laid.seconds_len;
        firsts = λ i lt. laid.firsts i lt ∙ firsts i;
        seconds = λ j lt. laid.seconds j lt ∙ seconds j;
        sequence = laid.sequence ∙ sym sequence;
        token = laid.token ∙ sym token;
        counters = λ k lt. laid.counters k lt ∙ sym (counters k);
      }

  pub lays_none : (t : TableState) (progress : WriterProgress)
      → IsLaidOut o words (record {
        state = record t {
          words = w.state.words;
          sequence = w.state.sequence;
          token = w.state.token;
        };
        progress = progress;
        workers = w.workers;
      })
  lays_none t progress = lays_same _ refl refl refl (λ k. refl)

-- how many words there are at the start
pub initial_count : (o : InitialData) → length (initial_words o) ≡ word_count o
initial_count o =
    let firsts : List ℕ = packed_words o.firsts in
    let seconds : List ℕ = packed_words o.seconds in
    let calm : List ℕ = replicate o.workers 0 in
    let many : length calm ≡ o.workers = length-replicate {A = ℕ} o.workers 0 in
    omega (
      arith,
      length-append firsts (seconds ++ calm),
      length-append seconds calm,
      many,
      packed_length o.firsts,
      packed_length o.seconds,
    )

-- the words at the start, where each is one of 32 bits
pub lays_initial : (o : InitialData) → ((i : ℕ) → i < length o.firsts → slice_index o.firsts i < 2 ^ 32)
    → ((j : ℕ) → j < length o.seconds → slice_index o.seconds j < 2 ^ 32)
    → IsLaidOut o (initial_words o) (after (initial_state_of o) [])
lays_initial o small_first small_second =
    let firsts : List ℕ = packed_words o.firsts in
    let seconds : List ℕ = packed_words o.seconds in
    let f : length firsts ≡ pairs (length o.firsts) = packed_length o.firsts in
    let s : length seconds ≡ pairs (length o.seconds) = packed_length o.seconds in
    let calm : List ℕ = replicate o.workers 0 in
    let rest : List ℕ = seconds ++ calm in
    let all : List ℕ = initial_words o in
    let behind : (at k : ℕ) → at ≡ suc (suc k) → slice_index all at ≡ slice_index (firsts ++ rest) k =
    λ at k e. ap (slice_index all) e in
    let past : (at k : ℕ) → at ≡ suc (suc (length firsts + k)) → slice_index all at ≡ slice_index rest k =
    λ at k e. behind at (length firsts + k) e ∙ get_or-append-add firsts rest k 0 in
    record {
      count = initial_count o;
      firsts_len = refl;
      seconds_len = refl;
      firsts = λ i lt. ap (half i) (behind (first_at i) (i / 2) (omega arith)
          ∙ get_or_append_left firsts rest 0 (i / 2) (omega (arith, lt, f)))
          ∙ packed_half o.firsts small_first i lt;
      seconds = λ j lt. ap (half j) (past (second_at o j) (j / 2) (omega (arith, f))
          ∙ get_or_append_left seconds calm 0 (j / 2) (omega (arith, lt, s)))
          ∙ packed_half o.seconds small_second j lt;
      sequence = refl;
      token = refl;
      counters = λ k lt. past (counter_at o k) (length seconds + k) (omega (arith, f, s))
          ∙ get_or-append-add seconds calm k 0
          ∙ get_or-replicate o.workers k 0 0 lt;
    }
