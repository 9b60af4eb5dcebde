-- Meaning: the groups that leave limbo in a command, and their checks (DPDK Programmer's Guide, "RCU
-- Library", the defer queue of "LPM Library": the oldest is reclaimed first, and none before a check of
-- its token has passed).
use Rattle.std.specs.Prelude.{ℕ, ◌≡◌, ◌+◌, ◌<◌, ◌⊎◌, List, ◌∷◌, ◌++◌, length, Contains, All}
use Rattle.lpm_cells.specs.declared.entry.Entry.TheVariants.{Group}
use Rattle.lpm_cells.specs.Words.{entry_in}
use Rattle.fib_model.specs.State.{State}
use Rattle.lpm_trace.specs.declared.step.WriterStep.{WriterStep}
use Rattle.lpm_trace.specs.declared.step.WriterStep.TheVariants.{StoreFirst}
use Rattle.lpm_trace.specs.Writer.{token_after, first_word_after}
use Rattle.shared_words.specs.Layout.{InitialData}
use Rattle.std.specs.List.{range_with_len}
use Rattle.lpm_trace.specs.Laws.{IsChecked}

-- An add takes the least free group (DPDK Programmer's Guide, "LPM Library": a tbl8 group that no
-- block has is free, and one that was given up is free once it was reclaimed; that the least is
-- taken is this project's).

-- after these steps the block has this group, by its word
abbrev pub HasGroup : InitialData → List WriterStep → ℕ → ℕ → Type 0
HasGroup initial steps block group = (block < length initial.firsts)
    × (entry_in (first_word_after initial.firsts steps block) ≡ Group group)

-- the group was given up under this token: in these steps the word of a block that had it was stored over,
-- and the token is the next one then
pub record IsGivenUp (initial : InitialData) (steps : List WriterStep) (group token : ℕ) : Type 0 where
  pub newer : List WriterStep
  pub older : List WriterStep
  pub block : ℕ
  pub word : ℕ
  pub split : steps ≡ newer ++ StoreFirst block word ∷ older
  pub had : HasGroup initial older block group
  pub next : token ≡ token_after initial.token older + 1

-- the group isn't free: a block has it, or it waits in limbo under the token by which it was given up
abbrev pub IsOccupied : InitialData → State (List WriterStep) → ℕ → Type 0
IsOccupied initial s group = ((block : ℕ) × HasGroup initial s.readers block group)
    ⊎ ((token : ℕ) × Contains s.limbo token × IsGivenUp initial s.readers group token)

-- A block that gets a group in a command, which leads from s to z, gets the least that is free: each
-- group of a lower number is occupied.
pub record TakesLeast (initial : InitialData) (s z : State (List WriterStep)) : Type 0 where
  pub least : (block group lower : ℕ)
      → HasGroup initial z.readers block group → ¬ HasGroup initial s.readers block group
      → lower < group → IsOccupied initial z lower

-- In a command that leads from s to z the limbo list is a queue. Each group that is unlinked goes last
-- into it, by the token that is started for it; those that are freed leave it at the front, and by the
-- steps in z each of them was checked.
pub record FreesChecked (initial : InitialData) (s z : State (List WriterStep)) (freed : List ℕ)
    : Type 0 where
  -- how many tokens were started
  pub started : ℕ
  pub token : token_after initial.token z.readers ≡ token_after initial.token s.readers + started
  pub queue : s.limbo ++ range_with_len (token_after initial.token s.readers + 1) started
      ≡ freed ++ z.limbo
  pub checked : All (IsChecked initial.workers initial.token z.readers) freed
