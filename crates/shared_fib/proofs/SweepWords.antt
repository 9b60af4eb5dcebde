-- A running table that opens with the words of a sweep: how they are packed, and that it may go on from them.
use Rattle.std.proofs.Common.{◌≡◌, ℕ, ◌+◌, ◌-◌, ◌*◌, ◌^◌, ◌<◌, ◌≤◌, inl, inr, List, ◌∷◌, ◌++◌, length, replicate, slice_index, take, refl, ap, sym, ◌∙◌, arith, append_assoc}
use Rattle.std.proofs.lemmas.Bool.{cases_lt}
use Rattle.std.proofs.lemmas.Nat.{mul-le, pow_below}
use Rattle.std.proofs.lemmas.List.{ext_get_or, get_or_append_left, get_or-append_right, get_or-replicate, get_or_past, length-append, length-replicate, take_all, replicate-append-replicate}
use Rattle.lpm_bits.specs.Widths.{IsShape}
use Rattle.lpm_limits.specs.Limits.{IsConfig}
use Rattle.lpm_limits.specs.declared.config.Config.{Config}
use Rattle.lpm_rules.specs.RuleMap.{RuleMap}
use Rattle.defer_queue.specs.Limbo.{Limbo as Queue}
use Rattle.lpm_writer.specs.declared.plain_memory.PlainMemory.{PlainMemory}
use Rattle.lpm_writer.specs.declared.control.ControlState.{ControlState}
use Rattle.fib.specs.Fib.{IsSound}
use Rattle.fib.proofs.InitialVersions.{fewer_words, sound_swept, control, memory}
use Rattle.shared_words.specs.Layout.{pairs, pair_at, packed_words}
use Rattle.shared_words.proofs.WordPlaces.{packed_at, packed_length}
use Rattle.shared_fib.specs.declared.initial_table.InitialTable.{InitialTable}
use Rattle.shared_fib.specs.InitialTable.{IsInitialTable, AreInitialWords}
use Rattle.shared_fib.proofs.Openings.{loaded_packed, loaded_is}

-- ---- how many words there may be

pub few_firsts : (f s : ℕ) → IsShape f s → 2 ^ f < 2 ^ 32
few_firsts f s shape = pow_below f 32 (omega (arith, shape))

pub few_seconds : (f s groups : ℕ) → IsShape f s → groups ≤ 65536 → groups * 2 ^ s ≤ 2 ^ 48
few_seconds f s groups shape few =
    let narrow = pow_below s 32 (omega (arith, shape)) in
    let most : groups * 2 ^ s ≤ 65536 * 2 ^ 32 = mul-le groups (2 ^ s) 65536 (2 ^ 32) few (omega (arith, narrow)) in
    omega (arith, most)

-- ---- misses behind the words that were swept

module _ (xs : List ℕ) (m : ℕ) where
  abbrev grown : List ℕ
  grown = xs ++ replicate m 0

  size : length grown ≡ length xs + m
  size = omega (arith, length-append xs (replicate m 0), length-replicate {A = ℕ} m 0)

  -- past its end a list has zeros, too
  same_word : (i : ℕ) → slice_index grown i ≡ slice_index xs i
  same_word i = elim (cases_lt i (length xs)) [
    | inl low ↦ get_or_append_left xs (replicate m 0) 0 i low
    | inr high ↦ elim (cases_lt i (length grown)) [
      | inl new ↦ get_or-append_right xs (replicate m 0) (length xs) i 0 refl high
          ∙ get_or-replicate m (i - length xs) 0 0 (omega (arith, new, size, high)) ∙ sym (get_or_past xs i 0 high)
      | inr past ↦ get_or_past grown i 0 past ∙ sym (get_or_past xs i 0 high)
    ]
  ]

  same_pair : (k : ℕ) → pair_at grown k ≡ pair_at xs k
  same_pair k = λ i. same_word (2 * k) i + same_word (2 * k + 1) i * 2 ^ 32

  abbrev more : ℕ
  more = pairs (length xs + m) - pairs (length xs)

  none_there : (k : ℕ) → pairs (length xs) ≤ k → pair_at xs k ≡ 0
  none_there k past =
      let low : slice_index xs (2 * k) ≡ 0 = get_or_past xs (2 * k) 0 (omega (arith, past)) in
      let high : slice_index xs (2 * k + 1) ≡ 0 = get_or_past xs (2 * k + 1) 0 (omega (arith, past)) in
      omega (arith, low, high)

  packed_more : packed_words grown ≡ packed_words xs ++ replicate more 0
  packed_more =
      let old = packed_length xs in
      let all : length (packed_words grown) ≡ pairs (length xs + m) = packed_length grown ∙ ap pairs size in
      let whole = length-append (packed_words xs) (replicate more 0) in
      let back = length-replicate {A = ℕ} more 0 in
      ext_get_or 0 (packed_words grown) (packed_words xs ++ replicate more 0) (omega (arith, old, all, whole, back))
      (λ k lt. packed_at grown k (omega (arith, lt, packed_length grown)) ∙ same_pair k
      ∙ elim (cases_lt k (pairs (length xs))) [
        | inl low ↦ sym (packed_at xs k low) ∙ sym (get_or_append_left (packed_words xs) (replicate more 0) 0 k (omega (arith, low, old)))
        | inr high ↦ none_there k high
            ∙ sym (get_or-append_right (packed_words xs) (replicate more 0) (pairs (length xs)) k 0 old high
            ∙ get_or-replicate more (k - pairs (length xs)) 0 0 (omega (arith, lt, all, high)))
      ])

-- the words of both tables, filled up with zeros, are those that a table begins with
pub laid_out : (F S W Z : List ℕ) (count d token second workers : ℕ) → W ≡ (0 ∷ token ∷ packed_words F) ++ packed_words S
    → Z ≡ take count W ++ replicate d 0 → d ≡ count - length W → count ≡ 2 + pairs (length F) + pairs second + workers
    → length S ≤ second
    → Z ≡ 0 ∷ token ∷ (packed_words F ++ (packed_words (S ++ replicate (second - length S) 0) ++ replicate workers 0))
laid_out F S W Z count d token second workers put filled rest all fits =
    let m : ℕ = second - length S in
    let e : ℕ = pairs (length S + m) - pairs (length S) in
    let calm : List ℕ = replicate workers 0 in
    let size : length W ≡ 2 + pairs (length F) + pairs (length S) =
    ap length put ∙ omega (arith, length-append (packed_words F) (packed_words S), packed_length F, packed_length S) in
    let zeros : replicate d 0 ≡ replicate e 0 ++ calm =
    ap (λ (k : ℕ). replicate k 0) (omega (arith, rest, all, size, fits)) ∙ sym (replicate-append-replicate e workers 0) in
    let kept : take count W ≡ 0 ∷ token ∷ (packed_words F ++ packed_words S) =
    take_all count W (omega (arith, size, all, fits)) ∙ put in
    let inner : packed_words S ++ (replicate e 0 ++ calm) ≡ packed_words (S ++ replicate m 0) ++ calm =
    sym (append_assoc (packed_words S) (replicate e 0) calm) ∙ ap (λ (l : List ℕ). l ++ calm) (sym (packed_more S m)) in
    filled ∙ (λ i. kept i ++ zeros i)
    ∙ ap (λ (l : List ℕ). 0 ∷ token ∷ l) (append_assoc (packed_words F) (packed_words S) (replicate e 0 ++ calm)
    ∙ ap (λ (l : List ℕ). packed_words F ++ l) inner)

-- ---- a table may go on from the words of a sweep

module _ (f s : ℕ) (config : Config) (R : RuleMap) (words blocks : List ℕ) (shape : IsShape f s) (limits : IsConfig config)
    (swept : AreInitialWords f s config R words blocks) where
  abbrev pub swept_control : ControlState f s
  swept_control = control f s config R 0 blocks swept.firsts swept.seconds

  abbrev pub swept_memory : PlainMemory f s
  swept_memory = memory f s config R 0 blocks swept.firsts swept.seconds

  sound : IsSound f s swept_control swept_memory
  sound = sound_swept f s config R 0 blocks swept.firsts swept.seconds shape limits swept.represents swept.numbered
      swept.room swept.few (omega arith) swept_control swept_memory refl refl refl refl

  long : length swept_memory.cells.seconds ≡ config.groups * 2 ^ s
  long =
      let m : ℕ = config.groups * 2 ^ s - length swept.seconds in
      let fits = fewer_words (length blocks) config.groups (2 ^ s) swept.few in
      omega (arith, length-append swept.seconds (replicate m 0), length-replicate {A = ℕ} m 0, fits, swept.room)

  pub swept_loaded : (l : InitialTable f s) (queue : Queue) (z : ControlState f s) → z ≡ swept_control → l.words.items ≡ words
      → l.layout.firsts ≡ 2 ^ f → l.layout.seconds ≡ config.groups * 2 ^ s → l.layout.workers ≡ config.workers
      → l.rules ≡ z.rules → l.groups ≡ z.pool.groups → queue ≡ z.pool.queue → IsInitialTable f s config queue l
  swept_loaded l queue z is same firsts seconds workers rules groups waits =
      loaded_is f s swept_control swept_memory sound refl config queue l refl (waits ∙ ap (λ (y : ControlState f s). y.pool.queue) is)
      (rules ∙ ap (λ (y : ControlState f s). y.rules) is) (groups ∙ ap (λ (y : ControlState f s). y.pool.groups) is)
      (omega (arith, limits.first_token.0)) limits.first_token.1
      (loaded_packed f s swept_control swept_memory l config.first_token refl (same ∙ swept.laid)
      (firsts ∙ sym swept.represents.table.words.firsts_len) (seconds ∙ sym long) workers)
