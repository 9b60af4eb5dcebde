-- Meaning: reader intervals (DPDK Programmer's Guide, "RCU Library": a grace period lasts until
-- each reader that may hold a reference has been in a quiescent state; the intervals between a
-- reader's quiescent states are those in which it may hold one). No token or counter is looked
-- at.
use Rattle.std.specs.Prelude.{ℕ, ◌+◌, ◌==◌, ◌&&◌, nat_lt, if◌then◌else◌, Bool, List, [], ◌∷◌, length, Option, Some, None, ◌≡◌, ◌<◌, ◌≤◌, IsTrue, IsSomeAnd, MatchOption, ◌↔◌, ◌⊎◌, ◌++◌}

-- Places in a list of events, of which the newest stands first and the oldest is at place 0 (this
-- project's).

-- the event at a place
abbrev pub event_at : {E : Type 0} → List E → ℕ → Option E
event_at [] place = None
event_at (event ∷ events) place =
    if place == length events then Some event else event_at events place

-- how many events before a place pass the test
abbrev pub count_before : {E : Type 0} → (E → Bool) → List E → ℕ → ℕ
count_before test [] place = 0
count_before test (event ∷ events) place =
    count_before test events place + (if test event && nat_lt (length events) place then 1 else 0)

-- which events begin a reader interval of a worker, and which end one; an event can do both
pub record ReportRule (E : Type 0) : Type 0 where
  pub begins : ℕ → E → Bool
  pub ends : ℕ → E → Bool

-- a reader interval of the worker begins at the place
abbrev pub BeginsAt : {E : Type 0} → ReportRule E → List E → ℕ → ℕ → Type 0
BeginsAt r events worker place =
    IsSomeAnd (event_at events place) (λ event. IsTrue (r.begins worker event))

-- a reader interval of the worker ends at the place
abbrev pub EndsAt : {E : Type 0} → ReportRule E → List E → ℕ → ℕ → Type 0
EndsAt r events worker place =
    IsSomeAnd (event_at events place) (λ event. IsTrue (r.ends worker event))

-- from one place to another; to none while it runs
pub record Interval : Type 0 where
  pub worker : ℕ
  pub start : ℕ
  pub end : Option ℕ

-- it begins at an event that begins one, and ends at the next event after it that ends one
pub record IsReaderInterval {E : Type 0} (r : ReportRule E) (events : List E) (i : Interval)
    : Type 0 where
  pub begins : BeginsAt r events i.worker i.start
  pub ends : MatchOption i.end
      ((place : ℕ) → i.start < place → ¬ EndsAt r events i.worker place)
      (λ end. (i.start < end) × EndsAt r events i.worker end
      × ((place : ℕ) → i.start < place → place < end → ¬ EndsAt r events i.worker place))

-- it holds what lies after its beginning and, where it has an end, before its end
abbrev pub Holds : Interval → ℕ → Type 0
Holds i place = (i.start < place) × MatchOption i.end (Unit {0}) (λ end. place < end)

-- a running reader interval of the worker began at `start`
abbrev pub IsRunningSince : {E : Type 0} → ReportRule E → List E → ℕ → ℕ → Type 0
IsRunningSince r events worker start =
    IsReaderInterval r events (record { worker = worker; start = start; end = None })

-- a running reader interval of the worker holds the place
abbrev pub IsHeldByWorker : {E : Type 0} → ReportRule E → List E → ℕ → ℕ → Type 0
IsHeldByWorker r events place worker = (i : Interval) × (i.worker ≡ worker) × (i.end ≡ None)
    × IsReaderInterval r events i × Holds i place

-- workers take turns: each has at most one running reader interval, and a number past the workers
-- has none
pub record IsTidy {E : Type 0} (r : ReportRule E) (workers : ℕ) (events : List E) : Type 0 where
  pub one : (w s t : ℕ) → IsRunningSince r events w s → IsRunningSince r events w t → s ≡ t
  pub others : (w s : ℕ) → workers ≤ w → ¬ IsRunningSince r events w s

-- Laws of reader intervals (this project's).

-- an interval that runs after one more event began with it, or ran before it and isn't ended by it
abbrev pub RunsAfterOneMore : Type 0 → Type 0
RunsAfterOneMore E = (r : ReportRule E) (event : E) (events : List E) (worker start : ℕ)
    → IsRunningSince r (event ∷ events) worker start
    ↔ (((start ≡ length events) × IsTrue (r.begins worker event))
    ⊎ (IsRunningSince r events worker start × ¬ IsTrue (r.ends worker event)))

-- once no worker holds the event at a place, no reader interval, whatever comes, holds both that
-- place and one from now on
abbrev pub GracePeriodIsOver : Type 0 → Type 0
GracePeriodIsOver E = (r : ReportRule E) (newer older : List E) (place later : ℕ) (i : Interval)
    → place < length older → ((worker : ℕ) → ¬ IsHeldByWorker r older place worker)
    → length older ≤ later → IsReaderInterval r (newer ++ older) i → Holds i place → ¬ Holds i later
