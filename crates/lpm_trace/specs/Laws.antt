-- Meaning: what holds of each trace: answers, reuse of groups, rest, and versions that never fall
-- (DPDK Programmer's Guide, "RCU Library": memory is used again after a grace period alone; this
-- project's otherwise).
use Rattle.std.specs.Prelude.{◌≡◌, ◌≢◌, ℕ, ◌/◌, ◌^◌, ◌<◌, ◌≤◌, ◌↔◌, ⊤, ◌==◌, Bool, true, false, All, List, [], ◌∷◌, ◌++◌, length}
use Rattle.std.specs.List.{AllPairs}
use Rattle.lpm_cells.specs.declared.entry.Entry.TheVariants.{Group}
use Rattle.lpm_cells.specs.Words.{entry_in, IsWords}
use Rattle.lpm_rules.specs.RuleMap.{RuleMap}
use Rattle.qsbr.specs.Intervals.{ReportRule, Interval, IsReaderInterval, Holds}
use Rattle.lpm_trace.specs.declared.step.WriterStep.{WriterStep}
use Rattle.lpm_trace.specs.declared.step.WriterStep.TheVariants.{StoreFirst, StoreSecond, LoadCounter}
use Rattle.lpm_trace.specs.declared.step.WorkerStep.{WorkerStep}
use Rattle.lpm_trace.specs.declared.step.WorkerStep.TheVariants.{StoreOnline, LoadQuiescent, StoreOffline}
use Rattle.lpm_trace.specs.declared.step.TraceStep.{TraceStep}
use Rattle.lpm_trace.specs.declared.step.TraceStep.TheVariants.{Writer, Worker as ByWorker}
use Rattle.lpm_trace.specs.States.{InitialState, TableState, IsSettled, addresses, answer, IsAnswer, updates_done_in, updates_begun_in, version, lets_pass, oldest, state_after, state_at, first_entry}
use Rattle.lpm_trace.specs.Writer.{token_after, passed_after}
use Rattle.lpm_trace.specs.Trace.{FinishedLookup, MayRead, MayCome, after, IsTrace, writes, own_steps, worker_by, worker_of}

-- ---- answers

-- the state at a moment: after the first t steps
abbrev pub at_moment : InitialState → List TraceStep → ℕ → TableState
at_moment c steps t = state_after c (writes (oldest t steps))

-- version k stands at moment t: its update was begun, and the next one isn't done
abbrev pub Stands : InitialState → List TraceStep → ℕ → ℕ → Type 0
Stands c steps t k = (updates_done_in (at_moment c steps t) ≤ k) × (k ≤ updates_begun_in (at_moment c steps t))

-- the rules of version k
abbrev pub rules_of_version : InitialState → List TraceStep → ℕ → RuleMap
rules_of_version c steps k = (state_after c (writes steps)).history k

-- a finished lookup is legal: its answer is that of the version which its address shows at a moment from
-- the read of its first word to the read of its last one. That version stands at that moment, and it lies
-- from `lo` to `hi`.
pub record IsLegal (c : InitialState) (steps : List TraceStep) (seen : FinishedLookup) : Type 0 where
  pub moment : ℕ
  pub chosen : ℕ
  pub from : seen.first ≤ moment
  pub to : moment ≤ seen.last
  pub within : seen.last ≤ length steps
  pub shown : chosen ≡ version (at_moment c steps moment) seen.addr
  pub stands : Stands c steps moment chosen
  pub answers : IsAnswer c (rules_of_version c steps chosen) seen.addr seen.hop
  pub low : seen.lo ≤ chosen
  pub high : chosen ≤ seen.hi

abbrev pub LookupsAreLegal : Type 0
LookupsAreLegal = (c : InitialState) (steps : List TraceStep) (worker : ℕ) → IsSettled c → IsTrace c steps
    → All (IsLegal c steps) (worker_of worker steps).finished

-- ---- reuse

-- a reader interval of the worker begins with the step: its counter is stored in a report that it is
-- online, or the token is loaded in a quiescent report
abbrev pub begins : ℕ → TraceStep → Bool
begins worker (ByWorker k (StoreOnline token)) = worker == k
begins worker (ByWorker k (LoadQuiescent token)) = worker == k
begins worker other = false

-- a reader interval of the worker ends with the step: the token is loaded in a quiescent report, or 0
-- is stored
abbrev pub ends : ℕ → TraceStep → Bool
ends worker (ByWorker k (LoadQuiescent token)) = worker == k
ends worker (ByWorker k StoreOffline) = worker == k
ends worker other = false

abbrev pub by_steps : ReportRule TraceStep
by_steps = record { begins = begins; ends = ends }

-- after the steps `older`, a store of the first word of block i unlinks group g: it replaces the
-- word of that group by another entry's
abbrev pub Unlinks : InitialState → List TraceStep → WriterStep → ℕ → Type 0
Unlinks c older (StoreFirst i x) g =
    (first_entry (state_after c (writes older)).words i ≡ Group g) × (entry_in x ≢ Group g)
Unlinks c older s g = ⊥

-- a store into group g
abbrev pub Fills : InitialState → WriterStep → ℕ → Type 0
Fills c (StoreSecond j x) g = j / 2 ^ c.second ≡ g
Fills c s g = ⊥

-- no group is rewritten within its grace period: no reader interval holds both a step that unlinks a
-- group and a later one that stores into it
abbrev pub ReuseIsLawful : Type 0
ReuseIsLawful = (c : InitialState) (newer between older : List TraceStep) (unlinks fills : WriterStep) (g : ℕ)
    → IsSettled c → IsTrace c (newer ++ Writer fills ∷ (between ++ Writer unlinks ∷ older))
    → Unlinks c older unlinks g → Fills c fills g
    → (i : Interval)
    → IsReaderInterval by_steps (newer ++ Writer fills ∷ (between ++ Writer unlinks ∷ older)) i
    → Holds i (length older) → ¬ Holds i (length (between ++ Writer unlinks ∷ older))

-- ---- checks

-- among these steps of the writer, which began with the token `start`, the worker's counter was loaded in
-- a check of the token, after the token was there, and let it pass
pub record HasLetPass (start : ℕ) (w_steps : List WriterStep) (token worker : ℕ) : Type 0 where
  pub newer : List WriterStep
  pub older : List WriterStep
  pub counter : ℕ
  pub split : w_steps ≡ newer ++ LoadCounter token worker counter ∷ older
  pub started : token ≤ token_after start older
  pub passes : lets_pass token counter ≡ true

-- a token passes as its check, or that of a later one, has: each worker's counter was loaded after that
-- token was there, and was 0 or at least the token
pub record IsChecked (workers start : ℕ) (w_steps : List WriterStep) (token : ℕ) : Type 0 where
  pub checked : ℕ
  pub later : token ≤ checked
  pub each : (worker : ℕ) → worker < workers → HasLetPass start w_steps checked worker

-- each token up to the greatest that has passed was checked
abbrev pub PassedIsChecked : Type 0
PassedIsChecked = (c : InitialState) (steps : List TraceStep) (token : ℕ) → IsTrace c steps
    → 0 < token → token ≤ passed_after c.workers (writes steps)
    → IsChecked c.workers c.token (writes steps) token

-- ---- rest

-- where no update runs, the words answer by the rules of the last version
abbrev pub RestAnswers : Type 0
RestAnswers = (c : InitialState) (steps : List TraceStep) → IsSettled c → IsTrace c steps
    → updates_done_in (after c steps).state ≡ updates_begun_in (after c steps).state
    → (a : ℕ) → a < addresses c
    → IsAnswer c ((after c steps).state.history (updates_done_in (after c steps).state)) a
    (answer c (after c steps).state.words a)

-- ---- versions

-- The version that an address shows (`version`) stands at each moment, and never falls. With the answers
-- above, of two lookups of one address the later one's version can be chosen not less.
abbrev pub VersionsNeverFall : Type 0
VersionsNeverFall = (c : InitialState) (steps : List TraceStep) (a t u : ℕ) → t ≤ u
    → Stands c steps t (version (at_moment c steps t) a)
    × (version (at_moment c steps t) a ≤ version (at_moment c steps u) a)

-- ---- what a worker knows of its own steps

-- a finished lookup is legal at a place: its answer is that of the version that its address shows when
-- the writer has made so many steps, from the read of its first word to the read of its last one. That
-- version lies from `lo` to `hi`. Here `first` and `last` are places.
pub record IsLegalAtPlace (c : InitialState) (w_steps : List WriterStep)
    (seen : FinishedLookup) : Type 0 where
  pub place : ℕ
  pub from : seen.first ≤ place
  pub to : place ≤ seen.last
  pub within : seen.last ≤ length w_steps
  pub answers : IsAnswer c
      ((state_after c w_steps).history (version (state_at c w_steps place) seen.addr))
      seen.addr seen.hop
  pub low : seen.lo ≤ version (state_at c w_steps place) seen.addr
  pub high : version (state_at c w_steps place) seen.addr ≤ seen.hi

-- what a worker's own steps leave, by their places, is its state, and its lookups are legal
abbrev pub OwnLookupsAreLegal : Type 0
OwnLookupsAreLegal = (c : InitialState) (steps : List TraceStep) (worker : ℕ)
    → IsSettled c → IsTrace c steps
    → ((after c steps).workers worker ≡ worker_by (own_steps worker steps))
    × All (IsLegalAtPlace c (writes steps)) (worker_by (own_steps worker steps)).finished

-- each of a worker's own steps may come where the writer has made as many of these steps as its place says,
-- after the worker's own steps before it. So each load finds what the writer had left at its place.
abbrev pub ArePlaced : InitialState → List WriterStep → List (WorkerStep × ℕ) → Type 0
ArePlaced c w_steps [] = ⊤
ArePlaced c w_steps (s ∷ steps) =
    MayRead c (state_at c w_steps s.1) (worker_by steps) s.0 × ArePlaced c w_steps steps

-- the own steps of a trace's worker are such
abbrev pub OwnStepsArePlaced : Type 0
OwnStepsArePlaced = (c : InitialState) (steps : List TraceStep) (worker : ℕ) → IsTrace c steps
    → ArePlaced c (writes steps) (own_steps worker steps)

-- the version that an address shows stands at each place, and never falls
abbrev pub VersionsNeverFallAtPlaces : Type 0
VersionsNeverFallAtPlaces = (c : InitialState) (w_steps : List WriterStep) (a t u : ℕ) → t ≤ u
    → (updates_done_in (state_at c w_steps t) ≤ version (state_at c w_steps t) a)
    × (version (state_at c w_steps t) a ≤ updates_begun_in (state_at c w_steps t))
    × (version (state_at c w_steps t) a ≤ version (state_at c w_steps u) a)

-- the places of a worker's own steps never fall, and none is past the number of the writer's steps
abbrev pub PlacesNeverFall : Type 0
PlacesNeverFall = (worker : ℕ) (steps : List TraceStep)
    → AllPairs (λ later earlier. earlier.1 ≤ later.1) (own_steps worker steps)
    × All (λ step. step.1 ≤ length (writes steps)) (own_steps worker steps)

-- ---- words

-- each word stays that of an entry that may stand at its place
abbrev pub WordsAreEntries : Type 0
WordsAreEntries = (c : InitialState) (steps : List TraceStep) → IsSettled c → IsTrace c steps
    → IsWords c.first c.second (after c steps).state.words

-- ---- traces

-- a step that may come next makes a trace one longer, and the steps before the newest make a trace:
-- so traces are defined
abbrev pub TraceGrows : Type 0
TraceGrows = (c : InitialState) (step : TraceStep) (steps : List TraceStep)
    → IsTrace c (step ∷ steps) ↔ (MayCome c (after c steps) step × IsTrace c steps)
