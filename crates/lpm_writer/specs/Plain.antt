-- Meaning: the memory of one thread, and the steps that may have led to it (this project's).
use Rattle.std.specs.Prelude.{List, ℕ, ◌≡◌, ◌+◌, ⊤, length, slice_index}
use Rattle.lpm_trace.specs.declared.step.WriterStep.{WriterStep}
use Rattle.lpm_trace.specs.States.{InitialState, state_after}
use Rattle.lpm_trace.specs.Writer.{MayStep, IsWritten}
use Rattle.lpm_cells.specs.Words.{Words, with_first, with_second}
use Rattle.qsbr.specs.Counters.{Registry}
use Rattle.lpm_trace.specs.declared.step.WriterStep.TheVariants.{StoreFirst, StoreSecond, BumpToken, LoadCounter}

-- Which step the writer of a memory may make next (this project's).

-- from some initial state, after some list of the writer's steps that may have led to the memory, the step
-- may come next
abbrev pub MayBeNext : {M : Type 0} → (M → InitialState → List WriterStep → Type 0) → M → WriterStep → Type 0
MayBeNext did m s = (c : InitialState) × (steps : List WriterStep) × did m c steps × MayStep c steps s

-- the words and the token are those that these steps leave, each of which might come
pub record PlainDid (first second : ℕ) (t : Words) (r : Registry) (c : InitialState)
    (steps : List WriterStep) : Type 0 where
  pub first_bits : c.first ≡ first
  pub second_bits : c.second ≡ second
  pub workers : length r.counters ≡ c.workers
  pub written : IsWritten c steps
  pub words : t ≡ (state_after c steps).words
  pub token : r.token ≡ (state_after c steps).token

-- the words after a step
abbrev pub words_by : Words → WriterStep → Words
words_by t (StoreFirst i x) = with_first t i x
words_by t (StoreSecond j x) = with_second t j x
words_by t other = t

-- the reports after a step: the counters stay
abbrev pub reports_by : Registry → WriterStep → Registry
reports_by r BumpToken = record r { token = r.token + 1 }
reports_by r other = r

-- a load finds the worker's counter
abbrev pub FindsCounter : WriterStep → Registry → Type 0
FindsCounter (LoadCounter token worker counter) r = counter ≡ slice_index r.counters worker
FindsCounter other r = ⊤

-- the step leads from these words and reports to those
pub record PlainDoes (s : WriterStep) (t : Words) (r : Registry) (t' : Words) (r' : Registry)
    : Type 0 where
  pub words : t' ≡ words_by t s
  pub reports : r' ≡ reports_by r s
  pub finds : FindsCounter s r
