-- Meaning: reports kept as what happened: the list of whole reports and unlinkings, the newest
-- first (DPDK Programmer's Guide, "RCU Library": grace periods and quiescent states).
use Rattle.std.specs.Prelude.{ℕ, ◌==◌, Bool, true, false, List, length, ◌≡◌, ◌+◌, ◌<◌, [], ◌∷◌}
use Rattle.qsbr.specs.Intervals.{ReportRule, IsRunningSince, IsHeldByWorker, count_before}
use Rattle.fib_model.specs.declared.event.Event.{Event}
use Rattle.fib_model.specs.declared.event.Event.TheVariants.{Online, Offline, Quiescent, Unlinking}
use Rattle.lpm_limits.specs.declared.busy.Busy.{Busy}
use Rattle.lpm_limits.specs.declared.config.Config.{Config}
use Rattle.fib_model.specs.declared.orders.ReaderReport.{ReaderReport}
use Rattle.fib_model.specs.State.{State, Transitions, ReaderModel, looks, initial_with}
use Rattle.fib_model.specs.declared.orders.ReaderReport.TheVariants as report

-- Which whole reports begin and end a reader interval, and how many unlinkings there were (DPDK
-- Programmer's Guide, "RCU Library": a reader comes online, reports quiescent states and goes
-- offline; this project's otherwise).

-- a reader interval of worker w begins with it
abbrev pub begins : ℕ → Event → Bool
begins w (Online v) = v == w
begins w (Quiescent v) = v == w
begins w (Offline v) = false
begins w Unlinking = false

-- a reader interval of worker w ends with it
abbrev pub ends : ℕ → Event → Bool
ends w (Online v) = false
ends w (Quiescent v) = v == w
ends w (Offline v) = v == w
ends w Unlinking = false

abbrev pub by_reports : ReportRule Event
by_reports = record { begins = begins; ends = ends }

abbrev pub is_unlinking : Event → Bool
is_unlinking (Online v) = false
is_unlinking (Quiescent v) = false
is_unlinking (Offline v) = false
is_unlinking Unlinking = true

-- how many unlinkings there were before a place
abbrev pub unlinkings_before : List Event → ℕ → ℕ
unlinkings_before events place = count_before is_unlinking events place

-- how many unlinkings there were
abbrev pub unlinkings : List Event → ℕ
unlinkings events = unlinkings_before events (length events)

-- the least worker whose running interval holds the unlinking at this place, with the token number
-- at that interval's beginning; the first token is `token`
pub record IsFirstHolder (token : ℕ) (events : List Event) (place : ℕ) (busy : Busy) : Type 0 where
  pub holds : IsHeldByWorker by_reports events place busy.worker
  pub first : (w : ℕ) → w < busy.worker → ¬ IsHeldByWorker by_reports events place w
  pub counter : (start : ℕ) → IsRunningSince by_reports events busy.worker start
      → busy.counter ≡ token + unlinkings_before events start

abbrev pub event_of : ReaderReport → ℕ → Event
event_of report.Online w = Online w
event_of report.Offline w = Offline w
event_of report.Quiescent w = Quiescent w

-- an unlinking is one more event, and goes by its place; else a change leaves the events; the
-- token number counts the unlinkings from the first token on
abbrev pub textbook : Config → Transitions (List Event)
textbook c = record {
  checks = looks (IsFirstHolder c.first_token);
  begins = λ events z. z ≡ events;
  unlinks = λ events name z. (name ≡ length events) × (z ≡ Unlinking ∷ events);
  ends = λ events z. z ≡ events;
  token = λ events. c.first_token + unlinkings events;
}

abbrev pub by_intervals : Config → ReaderModel (List Event)
by_intervals c = record {
  changes = textbook c;
  is_online = λ events w. (start : ℕ) × IsRunningSince by_reports events w start;
  after_report = λ report w events. event_of report w ∷ events;
}

-- nothing has happened
abbrev pub initial_by_events : State (List Event)
initial_by_events = initial_with []
