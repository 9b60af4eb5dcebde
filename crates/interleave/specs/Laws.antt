-- Meaning: what every trace is, from the top down, and what holds of each (Gupta, Lin and McKeown,
-- INFOCOM 1998, section 3: the answer is that of the longest match; DPDK Programmer's Guide, "RCU
-- Library": memory is used again after a grace period alone; that an update makes one version is this
-- project's). Each section says where the definitions stand that it rests on.
use Rattle.std.specs.Prelude.{ℕ, ◌≡◌, ◌<◌, ◌≤◌, All, List, ◌∷◌, ◌++◌, length}
use Rattle.qsbr.specs.Intervals.{Interval, IsReaderInterval, Holds}
use Rattle.lpm_trace.specs.declared.step.WriterStep.{WriterStep}
use Rattle.lpm_trace.specs.declared.step.TraceStep.{TraceStep}
use Rattle.lpm_trace.specs.declared.step.TraceStep.TheVariants.{Writer}
use Rattle.lpm_trace.specs.States.{InitialState, IsSettled, addresses, answer, IsAnswer, updates_done_in, updates_begun_in, version}
use Rattle.lpm_trace.specs.Trace.{IsTrace, worker_of}
use Rattle.lpm_trace.specs.Laws.{Stands, IsLegal, Unlinks, Fills, by_steps, at_moment, rules_of_version}

-- ---- a step
-- One load or one store of one word, by the writer or by a worker: `TraceStep` of `lpm_trace/src/step`.

-- ---- a trace
-- Steps of which each may come after those before it, the newest first: `IsTrace` of
-- `lpm_trace/specs/Trace`. A load gives what the word was left with, a worker makes the steps of
-- reports and lookups, and the writer those of updates and checks in its own order (`WriterProgress`). A table
-- begins with words that answer by its rules (`IsSettled` of `lpm_trace/specs/States`). Moment t is the
-- state after the first t steps (`at_moment`).

-- ---- a version
-- Version k is the rules after the changes of the first k updates (`rules_of_version`). It stands at a
-- moment where its update was begun, and the next one wasn't done (`Stands`). Both are of
-- `lpm_trace/specs/Laws`. An address shows a version at each moment (`version` of
-- `lpm_trace/specs/States`).

-- ---- a legal lookup
-- The hop is that of the longest match in the rules of the version that its address shows at a moment
-- from the load of the first word to that of the last. That version stands then, and it lies from `lo` to
-- `hi` (`IsLegal` of `lpm_trace/specs/Laws`).

-- ---- grace
-- A step unlinks a group where it stores over the word that links it, and fills one where it stores
-- into it (`Unlinks`, `Fills` of `lpm_trace/specs/Laws`). A reader interval goes from a report that the
-- worker is online, or from the load of the token in a quiescent one, to the next such load, or to the
-- report that it is offline (`by_steps` there). No token and no counter is looked at.

-- ---- the law

pub record IsLawful (c : InitialState) (steps : List TraceStep) : Type 0 where
  -- at each moment at which no update runs, the words answer by the rules of the last version
  pub rest : (t : ℕ) → updates_done_in (at_moment c steps t) ≡ updates_begun_in (at_moment c steps t)
      → (a : ℕ) → a < addresses c
      → IsAnswer c (rules_of_version c steps (updates_done_in (at_moment c steps t))) a
      (answer c (at_moment c steps t).words a)
  -- each lookup that a worker has finished is legal
  pub legal : (worker : ℕ) → All (IsLegal c steps) (worker_of worker steps).finished
  -- no group is rewritten within its grace period: no reader interval holds both a step that unlinks a
  -- group and a later store into it
  pub reuse : (newer between older : List TraceStep) (unlinks fills : WriterStep) (group : ℕ)
      → steps ≡ newer ++ Writer fills ∷ (between ++ Writer unlinks ∷ older)
      → Unlinks c older unlinks group → Fills c fills group
      → (i : Interval) → IsReaderInterval by_steps steps i
      → Holds i (length older) → ¬ Holds i (length (between ++ Writer unlinks ∷ older))
  -- no going back: the version that an address shows, by which lookups answer, stands and never falls
  pub versions : (a t u : ℕ) → t ≤ u → Stands c steps t (version (at_moment c steps t) a)
      × (version (at_moment c steps t) a ≤ version (at_moment c steps u) a)

-- each trace is lawful, whatever table it begins with, and whatever makes its steps
abbrev pub TracesAreLawful : Type 0
TracesAreLawful = (c : InitialState) (steps : List TraceStep) → IsSettled c → IsTrace c steps → IsLawful c steps
