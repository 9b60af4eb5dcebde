-- Meaning: what a worker of a storm gives back: the answers of the lookups that its pass made, each of a
-- version that stood meanwhile (this project's; the answer of the longest match is that of Gupta, Lin and
-- McKeown, INFOCOM 1998).
use Rattle.std.specs.Prelude.{ℕ, zero, suc, ◌≡◌, ◌<◌, ◌≤◌, true, false, List, [], ◌++◌, All, length, map, reverse, slice_get, slice_index_or, Option, Some, vec_capacity}
use Rattle.std.specs.List.{AllPairs, flat_map}
use Rattle.lpm_rules.specs.declared.Answer.{Answer}
use Rattle.lpm_trace.specs.declared.step.WriterStep.{WriterStep}
use Rattle.lpm_trace.specs.States.{InitialState}
use Rattle.lpm_trace.specs.Trace.{worker_by, FinishedLookup}
use Rattle.lpm_trace.specs.Laws.{ArePlaced}
use Rattle.shared_fib.specs.Laws.{IsOfVersion}
use Rattle.shared_fib.specs.RunningTable.{Identity, initial_state}
use Rattle.shared_fib.specs.Passes.{PassState}
use Rattle.storm.specs.declared.workers.Worker.{Worker}

-- the addresses, so many times
abbrev pub times : ℕ → List ℕ → List ℕ
times zero addrs = []
times (suc n) addrs = times n addrs ++ addrs

-- ---- lookups of a pass

-- the lookups that a pass has finished by its own steps, the oldest first
abbrev pub lookups_of : PassState → List FinishedLookup
lookups_of p = reverse (worker_by p.steps).finished

-- what a finished lookup answered, beside its address
abbrev pub answer_of : FinishedLookup → ℕ × Answer
answer_of seen = (seen.addr, record { hop = seen.hop; lo = seen.lo; hi = seen.hi })

-- what the pass answered, in order
abbrev pub answers_by : PassState → List (ℕ × Answer)
answers_by p = map answer_of (lookups_of p)

-- by these steps of the writer the lookup is of a version: its answer is the longest match in the rules of
-- one that stood between its first and its last read, and lies from its `lo` to its `hi`
abbrev pub IsOfAStandingVersion : InitialState → List WriterStep → FinishedLookup → Type 0
IsOfAStandingVersion c w_steps seen = (k : ℕ) × IsOfVersion c w_steps seen k

-- ---- a worker

-- its answers are those of its pass's lookups, one of each and in order; and each lookup is of a version,
-- by the steps of the writer that the pass has seen
pub record HoldsItsAnswers (id : Identity) (w : Worker) : Type 0 where
  pub answers : w.answers.items ≡ answers_by w.pass
  pub versions : All (IsOfAStandingVersion (initial_state id) w.pass.writer_steps) (lookups_of w.pass)

-- the number of the worker whose pass it has
abbrev pub number_of : Worker → ℕ
number_of w = w.pass.worker

-- each element is so, by its place
abbrev pub EachAt : {X : Type 0} → (ℕ → X → Type 0) → List X → Type 0
EachAt {X} P xs = (k : ℕ) (d : X) → k < length xs → P k (slice_index_or xs k d)

-- each has the pass of the worker whose number is its place
abbrev pub AreInSeats : List Worker → Type 0
AreInSeats workers = EachAt (λ k w. number_of w ≡ k) workers

-- the pass of this worker is at the bench, and has made no step
abbrev pub IsUnused : List (Option PassState) → ℕ → Type 0
IsUnused passes worker =
    (p : PassState) × (slice_get passes worker ≡ Some (Some p)) × (p.steps ≡ [])

-- its pass is one of this table and offline, and has made no step; it has no answer yet, and has room for
-- so many
pub record IsReadyFor (id : Identity) (count : ℕ) (w : Worker) : Type 0 where
  pub table : w.pass.table ≡ id
  pub offline : w.pass.online ≡ false
  pub unused : w.pass.steps ≡ []
  pub empty : w.answers.items ≡ []
  pub room : count ≤ vec_capacity w.answers

-- its pass is one of this table and offline; its answers are those of its lookups; and where it came to
-- its end, they are those of the whole list, in order, in each round
pub record IsOver (id : Identity) (addrs : List ℕ) (rounds : ℕ) (w : Worker) : Type 0 where
  pub table : w.pass.table ≡ id
  pub offline : w.pass.online ≡ false
  pub told : HoldsItsAnswers id w
  pub whole : w.is_done ≡ true → map (λ x. x.0) w.answers.items ≡ times rounds addrs

-- ---- after the threads

-- A pass of this table, which has seen these steps of the writer. Its own steps stand at places among them
-- that never fall, and each load found what the writer had left at its place. Its lookups are those of the
-- whole list, in order, in each round, and each is of a version.
pub record HasLookedUp (id : Identity) (addrs : List ℕ) (rounds : ℕ) (w_steps : List WriterStep)
    (p : PassState) : Type 0 where
  pub table : p.table ≡ id
  pub writer_steps : p.writer_steps ≡ w_steps
  pub within : All (λ step. step.1 ≤ length w_steps) p.steps
  pub rising : AllPairs (λ later earlier. earlier.1 ≤ later.1) p.steps
  pub placed : ArePlaced (initial_state id) w_steps p.steps
  pub whole : map (λ s. s.addr) (lookups_of p) ≡ times rounds addrs
  pub versions : All (IsOfAStandingVersion (initial_state id) w_steps) (lookups_of p)

-- its answers are those of its pass, which has looked the whole list up in each round
pub record HasAnswered (id : Identity) (addrs : List ℕ) (rounds : ℕ) (w_steps : List WriterStep)
    (w : Worker) : Type 0 where
  pub answers : w.answers.items ≡ answers_by w.pass
  pub looked : HasLookedUp id addrs rounds w_steps w.pass

-- the pass at each place is that of the worker of this number
abbrev pub AreOfWorkers : List PassState → Type 0
AreOfWorkers passes = (k : ℕ) (p : PassState) → slice_get passes k ≡ Some p → p.worker ≡ k

-- the answers of all these passes
abbrev pub answers_of_passes : List PassState → List (ℕ × Answer)
answers_of_passes passes = flat_map answers_by passes

-- the answers that the workers hold
abbrev pub answers_of_workers : List Worker → List (ℕ × Answer)
answers_of_workers workers = flat_map (λ w. w.answers.items) workers
