-- Meaning: laws of runs (this project's).
use Rattle.std.specs.Prelude.{ℕ, suc, List, [], ◌∷◌, ◌≡◌, ◌≢◌, ◌<◌, ◌↔◌, length, map, slice_index, All, Ok, Err}
use Rattle.std.specs.FinMap.{insert, remove, empty}
use Rattle.lpm_rules.specs.RuleMap.{RuleMap}
use Rattle.lpm_rules.specs.declared.Put.TheVariants.{Added, Replaced}
use Rattle.fib_model.specs.declared.orders.Order.{Order}
use Rattle.fib_model.specs.declared.orders.Outcome.{Outcome}
use Rattle.fib_model.specs.Outcomes.{Log, Runs}
use Rattle.lpm_limits.specs.declared.busy.Busy.{Busy}
use Rattle.lpm_limits.specs.declared.config.Config.{Config}
use Rattle.lpm_limits.specs.declared.refusal.Refusal.TheVariants.{Memory}
use Rattle.lpm_limits.specs.Limits.{IsConfig}
use Rattle.qsbr.specs.Counters.{Registry}
use Rattle.fib_model.specs.declared.orders.Outcome.TheVariants.{Refused}
use Rattle.fib_model.specs.declared.event.Event.{Event}
use Rattle.qsbr.specs.Intervals.{IsHeldByWorker}
use Rattle.fib_model.specs.Textbook.{by_reports, textbook, by_intervals, initial_by_events}
use Rattle.fib_model.specs.State.{State}
use Rattle.fib_model.specs.Counters.{counter_transitions, by_counters, initial_by_counters}
use Rattle.fib_model.specs.declared.orders.Order.TheVariants as order
use Rattle.fib_model.specs.declared.orders.Outcome.TheVariants as outcome

-- The versions of the rule list: the list after each accepted change that made a version, the
-- newest first (DPDK Programmer's Guide, "LPM Library", "Addition" and "Deletion"; that an
-- unchanged rule makes no version is this project's).

-- the last version; before the first change no rules stood
abbrev pub last_of : List RuleMap → RuleMap
last_of [] = empty
last_of (R ∷ versions) = R

-- the versions after a command: a replaced, added or deleted rule makes one, a flush of some rules
-- one, and everything else none
abbrev pub versions_after : {first second : ℕ} → List RuleMap → Order first second → Outcome
    → List RuleMap
versions_after H (order.Add p h) (outcome.Put Added) = insert (last_of H) p h ∷ H
versions_after H (order.Add p h) (outcome.Put Replaced) = insert (last_of H) p h ∷ H
versions_after H (order.Del p) (outcome.Deleted h) = remove (last_of H) p ∷ H
versions_after H order.Flush (outcome.Flushed (suc n)) = empty ∷ H
versions_after H other outcome = H

-- the versions that a log made
abbrev pub history : {first second : ℕ} → Log first second → List RuleMap
history [] = []
history (done ∷ log) = versions_after (history log) done.0 done.1

-- the rules are the last version, and the updates begun are as many as the versions
abbrev pub RulesAreLastVersion : Type 0
RulesAreLastVersion = (first second : ℕ) (c : Config) (log : Log first second)
    (z : State (List Event)) → Runs (by_intervals c) first second c initial_by_events log z
    → (z.rules ≡ last_of (history log)) × (z.updates_begun ≡ length (history log))

-- the same of a run by counters
abbrev pub RulesAreLastVersionByCounters : Type 0
RulesAreLastVersionByCounters = (first second : ℕ) (c : Config) (log : Log first second)
    (z : State Registry) → Runs by_counters first second c (initial_by_counters c) log z
    → (z.rules ≡ last_of (history log)) × (z.updates_begun ≡ length (history log))

-- after a run a check of an unlinking passes exactly where no worker's running interval holds it
-- (DPDK Programmer's Guide, "RCU Library": memory may be freed once no reader can hold a reference
-- to it)
abbrev pub UnheldByNone : Type 0
UnheldByNone = (first second : ℕ) (c : Config) (log : Log first second) (z : State (List Event))
    → Runs (by_intervals c) first second c initial_by_events log z
    → (place : ℕ) → (textbook c).checks z.readers place (Ok tt) z.readers
    ↔ ((w : ℕ) → ¬ IsHeldByWorker by_reports z.readers place w)

-- two runs of the same commands, neither with memory refused, have the same outcomes and leave the
-- same state
abbrev pub OutcomesAreUnique : Type 0
OutcomesAreUnique = (first second : ℕ) (c : Config) (log log' : Log first second)
    (z z' : State (List Event))
    → map (λ done. done.0) log ≡ map (λ done. done.0) log'
    → All (λ done. done.1 ≢ Refused Memory) log → All (λ done. done.1 ≢ Refused Memory) log'
    → Runs (by_intervals c) first second c initial_by_events log z
    → Runs (by_intervals c) first second c initial_by_events log' z'
    → (log ≡ log') × (z ≡ z')

-- what counters say and what reader intervals say is the same: of the rules, the versions, the
-- token number, who is online, and, for each unlinking that waits, who holds it
pub record Agrees (c : Config) (z : State Registry) (y : State (List Event)) : Type 0 where
  pub rules : y.rules ≡ z.rules
  pub begun : y.updates_begun ≡ z.updates_begun
  pub token : (textbook c).token y.readers ≡ z.readers.token
  pub online : (w : ℕ) → w < c.workers
      → by_counters.is_online z.readers w ↔ (by_intervals c).is_online y.readers w
  pub waiting : length y.limbo ≡ length z.limbo
  pub held : (place : ℕ) → place < length z.limbo → (busy : Busy)
      → counter_transitions.checks z.readers (slice_index z.limbo place) (Err busy) z.readers
      ↔ (textbook c).checks y.readers (slice_index y.limbo place) (Err busy) y.readers

-- a run by counters is one by reader intervals, with the same outcomes
abbrev pub CountersTellIntervals : Type 0
CountersTellIntervals = (first second : ℕ) (c : Config) (log : Log first second)
    (z : State Registry) → IsConfig c
    → Runs by_counters first second c (initial_by_counters c) log z
    → (y : State (List Event)) × Runs (by_intervals c) first second c initial_by_events log y × Agrees c z y
