-- Meaning: where each word of a shared table lies: the sequence, the token, the first words, the second
-- words, and the counter of each worker. A word of the two tables has 32 bits and a shared word 64, so two
-- neighbours of one table share a word (this project's).
use Rattle.std.specs.Prelude.{ℕ, List, [], slice_get, Option, Some, None, refl, ◌≡◌, ◌+◌, ◌*◌, ◌/◌, ◌%◌, ◌^◌, ◌<◌, ◌∷◌, ◌++◌, map, length, replicate, slice_index}
use Rattle.std.specs.Coded.{Coded, code_by, coded×, coded_ℕ, coded_list, coded_option}
use Rattle.std.specs.FinMap.{empty}
use Rattle.lpm_cells.specs.Words.{Words}
use Rattle.lpm_rules.specs.RuleMap.{RuleMap, coded_network}
use Rattle.lpm_trace.specs.States.{InitialState, Status, Unused, Linked}
use Rattle.std.specs.List.{range_with_len}
use Rattle.lpm_trace.specs.Trace.{World}
use Rattle.std.specs.FinMap as rules

-- What a shared table is opened with, as plain data (this project's).

-- the widths of the two tables, the number of workers, the token, the words with the rules that they
-- answer by, and the block of each linked group
pub record InitialData : Type 0 where
  pub first : ℕ
  pub second : ℕ
  pub workers : ℕ
  pub token : ℕ
  pub firsts : List ℕ
  pub seconds : List ℕ
  pub rules : RuleMap
  pub blocks : List (Option ℕ)

abbrev pub coded_initial_data : Coded InitialData
coded_initial_data =
    code_by (ℕ × (ℕ × (ℕ × (ℕ × (List ℕ × (List ℕ × (RuleMap × List (Option ℕ))))))))
    (coded× coded_ℕ (coded× coded_ℕ (coded× coded_ℕ (coded× coded_ℕ
    (coded× (coded_list coded_ℕ) (coded× (coded_list coded_ℕ)
    (coded× (rules.code coded_network coded_ℕ) (coded_list (coded_option coded_ℕ)))))))))
    (λ o. (o.first, (o.second, (o.workers, (o.token, (o.firsts, (o.seconds, (o.rules, o.blocks))))))))
    (λ p. record {
      first = p.0;
      second = p.1.0;
      workers = p.1.1.0;
      token = p.1.1.1.0;
      firsts = p.1.1.1.1.0;
      seconds = p.1.1.1.1.1.0;
      rules = p.1.1.1.1.1.1.0;
      blocks = p.1.1.1.1.1.1.1;
    })
    (λ _. refl)

-- a group that has a block is linked to it, and no other was ever linked
abbrev pub status_of : Option (Option ℕ) → Status
status_of (Some (Some block)) = Linked block
status_of (Some None) = Unused
status_of None = Unused

-- the words as two lists
abbrev pub words_of : InitialData → Words
words_of o = record { firsts = o.firsts; seconds = o.seconds }

-- what the traces of the table begin with
abbrev pub initial_state_of : InitialData → InitialState
initial_state_of o = record {
  first = o.first;
  second = o.second;
  workers = o.workers;
  token = o.token;
  words = words_of o;
  rules = o.rules;
  groups = λ g. status_of (slice_get o.blocks g);
}

-- what a type of which no value is made stands for
abbrev pub no_initial_data : InitialData
no_initial_data = record {
  first = 0;
  second = 0;
  workers = 0;
  token = 0;
  firsts = [];
  seconds = [];
  rules = empty;
  blocks = [];
}

-- what a shared word has of the table word at this place: its low 32 bits for an even place, its high 32
-- bits for an odd one
abbrev pub half : ℕ → ℕ → ℕ
half at word = word / 2 ^ (at % 2 * 32) % 2 ^ 32

-- how many words so many table words share
abbrev pub pairs : ℕ → ℕ
pairs n = (n + 1) / 2

-- the words that those of a table share; at the end of an odd number of them one half is left over
abbrev pub pair_at : List ℕ → ℕ → ℕ
pair_at xs k = slice_index xs (2 * k) + slice_index xs (2 * k + 1) * 2 ^ 32

abbrev pub packed_words : List ℕ → List ℕ
packed_words xs = map (pair_at xs) (range_with_len 0 (pairs (length xs)))

abbrev pub sequence_at : ℕ
sequence_at = 0

abbrev pub token_at : ℕ
token_at = 1

abbrev pub first_at : ℕ → ℕ
first_at i = 2 + i / 2

abbrev pub second_at : InitialData → ℕ → ℕ
second_at o j = 2 + pairs (length o.firsts) + j / 2

abbrev pub counter_at : InitialData → ℕ → ℕ
counter_at o worker = 2 + pairs (length o.firsts) + pairs (length o.seconds) + worker

abbrev pub word_count : InitialData → ℕ
word_count o = 2 + pairs (length o.firsts) + pairs (length o.seconds) + o.workers

-- the words that a table is opened with: no update was begun, and each worker is offline
abbrev pub initial_words : InitialData → List ℕ
initial_words o = 0 ∷ o.token ∷ (packed_words o.firsts ++ (packed_words o.seconds ++ replicate o.workers 0))

-- the words are those of the world
pub record IsLaidOut (o : InitialData) (words : List ℕ) (w : World) : Type 0 where
  pub count : length words ≡ word_count o
  pub firsts_len : length w.state.words.firsts ≡ length o.firsts
  pub seconds_len : length w.state.words.seconds ≡ length o.seconds
  pub firsts : (i : ℕ) → i < length o.firsts
      → half i (slice_index words (first_at i)) ≡ slice_index w.state.words.firsts i
  pub seconds : (j : ℕ) → j < length o.seconds
      → half j (slice_index words (second_at o j)) ≡ slice_index w.state.words.seconds j
  pub sequence : slice_index words sequence_at ≡ w.state.sequence
  pub token : slice_index words token_at ≡ w.state.token
  pub counters : (k : ℕ) → k < o.workers
      → slice_index words (counter_at o k) ≡ (w.workers k).counter
