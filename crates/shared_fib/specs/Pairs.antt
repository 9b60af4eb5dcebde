-- Meaning: a list of table words of 32 bits, of which two neighbours share a word of 64 bits, behind the
-- words for a sequence and a token, as a running table has them (this project's).
use Rattle.std.specs.Prelude.{ℕ, ◌≡◌, ◌+◌, ◌%◌, ◌^◌, ◌<◌, List, map, length, slice_index}
use Rattle.std.specs.List.{range_with_len}
use Rattle.shared_words.specs.Layout.{half, pairs, first_at, sequence_at}

-- the first so many table words that the shared words have
abbrev pub unpacked_pairs : ℕ → List ℕ → List ℕ
unpacked_pairs count words = map (λ i. half i (slice_index words (first_at i))) (range_with_len 0 count)

-- the shared words have so many table words; the sequence is 0, and so is the half that is left over behind
-- an odd number of table words
pub record ArePairs (count : ℕ) (words : List ℕ) : Type 0 where
  pub all : length words ≡ 2 + pairs count
  pub sequence : slice_index words sequence_at ≡ 0
  pub low : (k : ℕ) → slice_index words k < 2 ^ 64
  pub left : count % 2 ≡ 1 → slice_index words (first_at count) < 2 ^ 32
