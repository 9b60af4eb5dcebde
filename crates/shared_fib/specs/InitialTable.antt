-- This layer's own: what a running table may be opened with, and the words that a sweep over its rules makes.
use Rattle.std.specs.Prelude.{ℕ, ◌≡◌, ◌-◌, ◌*◌, ◌^◌, ◌≤◌, List, [], ◌∷◌, ◌++◌, length, replicate}
use Rattle.lpm_bits.specs.Widths.{IsShape}
use Rattle.lpm_cells.specs.declared.entry.Entry.TheVariants.{Miss}
use Rattle.lpm_cells.specs.Words.{word_of}
use Rattle.lpm_limits.specs.declared.config.Config.{Config}
use Rattle.lpm_rules.specs.RuleMap.{RuleMap}
use Rattle.lpm_update.specs.Represents.{Represents}
use Rattle.lpm_sweep.specs.SweepWords.{AreNumbered}
use Rattle.defer_queue.specs.Limbo.{Limbo as Queue}
use Rattle.lpm_trace.specs.States.{IsSettled}
use Rattle.lpm_writer.specs.Rest.{IsResting}
use Rattle.shared_words.specs.Layout.{initial_state_of, packed_words}
use Rattle.shared_fib.specs.declared.initial_table.InitialTable.{InitialTable}
use Rattle.shared_fib.specs.Initial.{ArePacked}
use Rattle.shared_fib.specs.RunningTable.{initial_data_of}

-- a running table of these limits may begin with this: no group waits, and its writer rests
pub record IsInitialTable (first second : ℕ) (config : Config) (queue : Queue)
    (l : InitialTable first second) : Type 0 where
  pub shape : IsShape first second
  pub packed : ArePacked (initial_data_of first second l) l.words.items l.layout
  pub settled : IsSettled (initial_state_of (initial_data_of first second l))
  pub token : (initial_data_of first second l).token ≤ 2 ^ 62
  pub none : queue.items ≡ []
  pub rests : IsResting first second (initial_state_of (initial_data_of first second l)) [] config l.rules
      (record { groups = l.groups; queue = queue; passed = 0 }) 0

-- a running table begins with these words, which stand for the rules: the sequence, the token, the first
-- words, the words of the groups of these blocks, misses for the groups that are free, and the counters
pub record AreInitialWords (first second : ℕ) (config : Config) (R : RuleMap)
    (words blocks : List ℕ) : Type 0 where
  pub firsts : List ℕ
  pub seconds : List ℕ
  pub represents : Represents first second R (record { firsts = firsts; seconds = seconds })
  pub numbered : AreNumbered firsts blocks
  pub room : length seconds ≡ length blocks * 2 ^ second
  pub few : length blocks ≤ config.groups
  pub laid : words ≡ 0 ∷ config.first_token ∷ (packed_words firsts
      ++ (packed_words (seconds ++ replicate (config.groups * 2 ^ second - length seconds) (word_of Miss))
      ++ replicate config.workers 0))
