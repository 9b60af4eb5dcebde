-- Meaning: what a running table is opened with, by the table of one thread that it goes on from (this
-- project's).
use Rattle.std.specs.Prelude.{ℕ, ◌≡◌, ◌+◌, ◌/◌, List, map, length, slice_index, Option, Some, None}
use Rattle.std.specs.List.{range_with_len}
use Rattle.lpm_cells.specs.Words.{Words}
use Rattle.lpm_groups.specs.declared.GroupState.{GroupState}
use Rattle.lpm_groups.specs.declared.GroupState.TheVariants.{Free, Linked, Limbo}
use Rattle.lpm_rules.specs.RuleMap.{RuleMap}
use Rattle.shared_words.specs.Layout.{InitialData, half, pairs, first_at, token_at, initial_words}
use Rattle.shared_words.specs.declared.layout.Layout.{Layout}

-- the block that a group is linked to
abbrev pub block_of : GroupState → Option ℕ
block_of Free = None
block_of (Linked block) = Some block
block_of Limbo = None

-- the table of these widths, with these words, rules, groups, workers and this token
abbrev pub initial_data_by : ℕ → ℕ → Words → RuleMap → List GroupState → ℕ → ℕ → InitialData
initial_data_by first second t R states workers token = record {
  first = first;
  second = second;
  workers = workers;
  token = token;
  firsts = t.firsts;
  seconds = t.seconds;
  rules = R;
  blocks = map block_of states;
}

-- the words of the two tables, as the shared words have them
abbrev pub unpacked_words : List ℕ → Layout → Words
unpacked_words words layout = record {
  firsts = map (λ i. half i (slice_index words (first_at i))) (range_with_len 0 layout.firsts);
  seconds = map (λ j. half j (slice_index words (2 + pairs layout.firsts + j / 2)))
      (range_with_len 0 layout.seconds);
}

-- the table of these widths, with these shared words, which lie so, and with these rules and groups
abbrev pub initial_data_of_words : ℕ → ℕ → List ℕ → Layout → RuleMap → List GroupState → InitialData
initial_data_of_words first second words layout R states =
    initial_data_by first second (unpacked_words words layout) R states layout.workers (slice_index words token_at)

-- the shared words that a table is opened with, which lie so
pub record ArePacked (o : InitialData) (list : List ℕ) (layout : Layout) : Type 0 where
  pub words : list ≡ initial_words o
  pub firsts : layout.firsts ≡ length o.firsts
  pub seconds : layout.seconds ≡ length o.seconds
  pub workers : layout.workers ≡ o.workers
