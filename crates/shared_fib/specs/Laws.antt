-- Meaning: no pass goes back in versions, and the rules of a version stay (Gupta, Lin and McKeown, INFOCOM
-- 1998, section 3: the answer of the longest match; this project's otherwise).
use Rattle.std.specs.Prelude.{ℕ, ◌≡◌, ◌≤◌, ◌⊎◌, List, ◌++◌, length, slice_get, Option, Some}
use Rattle.lpm_trace.specs.declared.step.WriterStep.{WriterStep}
use Rattle.lpm_trace.specs.declared.step.WorkerStep.{WorkerStep}
use Rattle.lpm_trace.specs.States.{InitialState, IsAnswer, updates_done_in, updates_begun_in, state_after, state_at}
use Rattle.lpm_trace.specs.Trace.{FinishedLookup, IsBetweenDeeds, worker_by}
use Rattle.lpm_trace.specs.Laws.{IsLegalAtPlace}
use Rattle.shared_words.specs.Rule.{IsLater}
use Rattle.shared_fib.specs.RunningTable.{WriterState, Rests, initial_state, steps_of}
use Rattle.shared_fib.specs.Passes.{PassState, IsHistory, LooksUp, LooksUpAll}

-- ---- versions

-- version k stands after the first `place` of the writer's steps: its update was begun, and the next one
-- isn't done
abbrev pub StandsAt : InitialState → List WriterStep → ℕ → ℕ → Type 0
StandsAt c w_steps place k =
    (updates_done_in (state_at c w_steps place) ≤ k) × (k ≤ updates_begun_in (state_at c w_steps place))

-- the lookup can be said to be of version k: its answer is that of the longest match in the rules of that
-- version, which stood at a place of the lookup's span and lies from `lo` to `hi`
pub record IsOfVersion (c : InitialState) (w_steps : List WriterStep) (seen : FinishedLookup)
    (k : ℕ) : Type 0 where
  pub place : ℕ
  pub from : seen.first ≤ place
  pub to : place ≤ seen.last
  pub within : seen.last ≤ length w_steps
  pub stands : StandsAt c w_steps place k
  pub answers : IsAnswer c ((state_after c w_steps).history k) seen.addr seen.hop
  pub low : seen.lo ≤ k
  pub high : k ≤ seen.hi

-- versions can be chosen for two lookups so that the later one's isn't less
abbrev pub AreInOrder : InitialState → List WriterStep → FinishedLookup → FinishedLookup → Type 0
AreInOrder c w_steps earlier later = (k : ℕ) × (l : ℕ) × (k ≤ l)
    × IsOfVersion c w_steps earlier k × IsOfVersion c w_steps later l

-- the rules of a version that was begun stay, whatever the writer does then
abbrev pub VersionsStay : Type 0
VersionsStay = (c : InitialState) (before after : List WriterStep) (k : ℕ) → IsLater before after
    → k ≤ updates_begun_in (state_after c before) → (state_after c after).history k ≡ (state_after c before).history k

-- ---- finished lookups

-- two lookups of one address never go back, where the later one's words were loaded after all that was
-- known of the writer's steps when the earlier one had ended
abbrev pub LookupsNeverGoBack : Type 0
LookupsNeverGoBack = (c : InitialState) (before after : List WriterStep) (earlier later : FinishedLookup)
    → IsLegalAtPlace c before earlier → IsLegalAtPlace c after later
    → IsLater before after → length before ≤ later.first → earlier.addr ≡ later.addr
    → AreInOrder c after earlier later

-- ---- one pass

-- the earlier lookup was finished with the older of a worker's steps, after which the worker was neither in
-- a report nor in a lookup; the later one was finished since
pub record IsFinishedSince (newer older : List (WorkerStep × ℕ))
    (earlier later : FinishedLookup) : Type 0 where
  pub rests : IsBetweenDeeds (worker_by older).phase
  pub before : (i : ℕ) × (slice_get (worker_by older).finished i ≡ Some earlier)
  pub since : List FinishedLookup
  pub split : (worker_by (newer ++ older)).finished ≡ since ++ (worker_by older).finished
  pub after : (i : ℕ) × (slice_get since i ≡ Some later)

-- of two lookups of one address that a pass has finished, the later one's version can be chosen not less
abbrev pub PassesNeverGoBack : Type 0
PassesNeverGoBack = (p : PassState) (newer older : List (WorkerStep × ℕ)) (earlier later : FinishedLookup)
    → IsHistory p → p.steps ≡ newer ++ older → IsFinishedSince newer older earlier later
    → earlier.addr ≡ later.addr
    → AreInOrder (initial_state p.table) p.writer_steps earlier later

-- a lookup of one address or of several, with this `lo` and `hi`
abbrev pub IsLookedUp : ℕ → ℕ → PassState → PassState → Type 0
IsLookedUp lo hi p q = ((addr : ℕ) × (hop : Option ℕ) × LooksUp addr hop lo hi p q)
    ⊎ ((addrs : List ℕ) × (hops : List (Option ℕ)) × LooksUpAll addrs hops lo hi p q)

-- a lookup of a pass that has met the writer, at rest, before and again after it, while the writer has made
-- no step: `lo` and `hi` are both the number of the versions
abbrev pub LookupsCountVersions : Type 0
LookupsCountVersions = (writer : WriterState) (lo hi : ℕ) (p q : PassState) → Rests writer
    → IsLookedUp lo hi p q → IsHistory q → q.table ≡ writer.identity
    → p.writer_steps ≡ steps_of writer → q.writer_steps ≡ steps_of writer
    → (lo ≡ writer.table.updates_begun) × (hi ≡ writer.table.updates_begun)
