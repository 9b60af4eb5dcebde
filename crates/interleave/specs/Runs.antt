-- Meaning: a run of the pure world: a trace of the writer's changes and of the workers' deeds by a
-- schedule, with its outcomes and its lookups (DPDK Programmer's Guide, "LPM Library" and "RCU
-- Library", for the groups in limbo; this project's otherwise). What holds of every trace is in `Laws`.
use Rattle.std.specs.Prelude.{ℕ, ◌≡◌, ◌≢◌, ◌+◌, ◌^◌, ◌≤◌, List, ◌∷◌, Ok, Err, ◌<◌, ◌⊎◌, [], ◌++◌, length, map, reverse}
use Rattle.lpm_limits.specs.declared.config.Config.{Config}
use Rattle.lpm_limits.specs.declared.refusal.Refusal.TheVariants.{Exhausted, Memory}
use Rattle.lpm_rules.specs.declared.Change.{Change}
use Rattle.lpm_rules.specs.declared.Change.TheVariants.{Add, Delete, Flush, Reclaim, Synchronize}
use Rattle.lpm_trace.specs.declared.step.WriterStep.{WriterStep}
use Rattle.lpm_trace.specs.declared.step.WriterStep.TheVariants.{BumpToken}
use Rattle.lpm_trace.specs.Writer.{token_after}
use Rattle.lpm_trace.specs.States.{InitialState, state_after, updates_done_in, IsSettled}
use Rattle.lpm_update.specs.Represents.{Represents}
use Rattle.fib_model.specs.State.{State, initial_with}
use Rattle.fib_model.specs.Outcomes.{Adds, Deletes, Flushes, Frees}
use Rattle.lpm_rules.specs.RuleMap.{RuleList}
use Rattle.lpm_writer.specs.declared.pool.GroupPool.{GroupPool}
use Rattle.lpm_writer.specs.Steps.{by_steps_from, AreStopped, Synchronizes, StoresOnce}
use Rattle.lpm_writer.specs.Rest.{state_of, blank_initial_state}
use Rattle.lpm_writer.specs.GroupsMatch.{IsLimbo}
use Rattle.interleave.specs.declared.reply.Reply.{Reply}
use Rattle.interleave.specs.declared.reply.Reply.TheVariants.{Put, Deleted, Flushed, Reclaimed, Synchronized, Refused}
use Rattle.lpm_limits.specs.Limits.{IsConfig}
use Rattle.lpm_trace.specs.declared.shown_step.Actor.{Actor}
use Rattle.lpm_trace.specs.declared.deed.Deed.{Deed}
use Rattle.lpm_trace.specs.declared.step.TraceStep.{TraceStep}
use Rattle.lpm_trace.specs.declared.step.TraceStep.TheVariants.{Writer}
use Rattle.lpm_trace.specs.Trace.{IsTrace, writes, worker_of}
use Rattle.interleave.specs.declared.finished_lookups.Seen.{Seen}
use Rattle.interleave.specs.Record.{seen_by, all_shown, all_seen, seen_of}
use Rattle.interleave.specs.World.{HasEnded, IsScheduled, AreScripted, writer_items}
use Rattle.interleave.specs.declared.trace.Trace.{Trace}
use Rattle.interleave.specs.Laws.{IsLawful}

-- What comes of a change of the writer's script, by the writer's steps alone (DPDK Programmer's
-- Guide, "LPM Library" and "RCU Library": a synchronize waits until each reader has left a token
-- behind).

-- what an outcome depends on, by the writer's steps
abbrev pub StateBySteps : Type 0
StateBySteps = State (List WriterStep)

-- the token that is started next after these steps
abbrev pub next_token : InitialState → List WriterStep → ℕ
next_token c steps = token_after c.token steps + 1

-- a token was started, and a worker stopped each of n checks of it
abbrev pub Waits : InitialState → ℕ → List WriterStep → List WriterStep → Type 0
Waits c n x z = AreStopped c.workers n (BumpToken ∷ x) (next_token c x) z

-- what a writer keeps between its changes is what its steps say: each update that was begun is done,
-- the rules are those of the last version, the words represent them (so the groups linked are the
-- blocks of rules longer than f bits), these groups wait in limbo, and in no update was a word stored
-- twice
pub record AgreesWithSteps (f g : ℕ) (c : InitialState) (s : StateBySteps) : Type 0 where
  pub begun : s.updates_begun ≡ updates_done_in (state_after c s.readers)
  pub rules : (state_after c s.readers).history (updates_done_in (state_after c s.readers)) ≡ s.rules
  pub represents : Represents f g s.rules (state_after c s.readers).words
  pub limbo : IsLimbo c (state_after c s.readers) s.limbo
  pub once : StoresOnce s.readers

-- there are tokens for all groups; a synchronize takes no version
abbrev pub HasTokensLeft : InitialState → Config → StateBySteps → Type 0
HasTokensLeft c config s = token_after c.token s.readers + config.groups ≤ 2 ^ 62

-- the change came out so, and left z; want of memory ends the run, and is no reply
abbrev pub Answers : InitialState → (first second : ℕ) → Config → StateBySteps → Change first second → Reply → StateBySteps
    → Type 0
Answers c f g config s (Add p h) (Put put) z = Adds (by_steps_from c.workers c.token) f g config s p h (Ok put) z
Answers c f g config s (Add p h) (Refused r) z = (r ≢ Memory)
    × Adds (by_steps_from c.workers c.token) f g config s p h (Err r) z
Answers c f g config s (Delete p) (Deleted h) z = Deletes (by_steps_from c.workers c.token) f g config s p (Ok h) z
Answers c f g config s (Delete p) (Refused r) z = Deletes (by_steps_from c.workers c.token) f g config s p (Err r) z
Answers c f g config s Flush (Flushed n) z = Flushes (by_steps_from c.workers c.token) f g config s (Ok n) z
Answers c f g config s Flush (Refused r) z = Flushes (by_steps_from c.workers c.token) f g config s (Err r) z
Answers c f g config s (Reclaim max) (Reclaimed r) z = Frees (by_steps_from c.workers c.token) s max r z
Answers c f g config s Synchronize Synchronized z = HasTokensLeft c config s
    × Synchronizes c.workers c.token s.readers z.readers
    × (z ≡ record s { readers = z.readers })
Answers c f g config s Synchronize (Refused Exhausted) z = ¬ HasTokensLeft c config s × (z ≡ s)
Answers c f g config s change reply z = ⊥

-- the change came out so, and what is kept then is what the steps say
abbrev pub CameOut : InitialState → (first second : ℕ) → Config → StateBySteps → Change first second → Reply → StateBySteps
    → Type 0
CameOut c f g config s change reply z = Answers c f g config s change reply z × AgreesWithSteps f g c z

-- ---- the writer's script

-- n items of the schedule are the writer's: a change is begun where one is left for it, and answered
-- where its last step has one. So the changes of the log, each with its reply and the newest first,
-- were answered one after another, and left z.
abbrev pub HaveComeOut : InitialState → (f g : ℕ) → Config → ℕ → StateBySteps → List (Change f g × Reply) → StateBySteps
    → Type 0
HaveComeOut c f g config n initial [] z = z ≡ initial
HaveComeOut c f g config n initial (entry ∷ log) z = (s : StateBySteps)
    × HaveComeOut c f g config n initial log s
    × (length s.readers < n) × (length z.readers ≤ n)
    × CameOut c f g config s entry.0 entry.1 z

-- with these steps the change would come out in some way, or a synchronize, for which there were tokens,
-- would wait on
abbrev pub IsUnderWay : InitialState → (f g : ℕ) → Config → StateBySteps → Change f g → List WriterStep → Type 0
IsUnderWay c f g config s change steps =
    ((reply : Reply) × (z : StateBySteps) × CameOut c f g config s change reply z × (z.readers ≡ steps))
    ⊎ ((change ≡ Synchronize) × HasTokensLeft c config s × ((tries : ℕ) × Waits c tries s.readers steps))

-- of the changes that are left the first wasn't begun, or would need more than the writer's items
abbrev pub AreUnanswered : InitialState → (f g : ℕ) → Config → ℕ → StateBySteps → List (Change f g) → List WriterStep
    → Type 0
AreUnanswered c f g config n s [] steps = steps ≡ s.readers
AreUnanswered c f g config n s (change ∷ left) steps =
    ((n ≤ length s.readers) × (steps ≡ s.readers))
    ⊎ ((length s.readers < n) × (n < length steps) × IsUnderWay c f g config s change steps)

-- the changes of the script were answered in order, as far as the writer's items lead; `steps` are the
-- writer's, with those that the last change still needs
pub record IsPerformed (c : InitialState) (f g : ℕ) (config : Config) (n : ℕ) (initial : StateBySteps)
    (script : List (Change f g)) (replies : List Reply) (steps : List WriterStep) : Type 0 where
  pub log : List (Change f g × Reply)
  pub left : List (Change f g)
  pub last : StateBySteps
  pub script_is : script ≡ reverse (map (λ entry. entry.0) log) ++ left
  pub replies_are : replies ≡ reverse (map (λ entry. entry.1) log)
  pub answered : HaveComeOut c f g config n initial log last
  pub unanswered : AreUnanswered c f g config n last left steps

-- ---- traces of changes and deeds

-- there are no rules, no steps were made, no group waits, and no update was begun
abbrev pub initial_state_by_steps : StateBySteps
initial_state_by_steps = initial_with []

-- the steps, the newest first, of a writer that makes these changes one after another, and of workers that do
-- the deeds of their scripts, on a table that was just opened. n items of a schedule are the writer's, and
-- `beyond` are the steps that its last change needs past them.
--
-- `IsTrace` says which step may come next by the steps before it alone. What the writer keeps beside them is
-- told by its changes, in `performed`: before an unlinked group is queued a reclaim runs exactly where more
-- than `threshold` groups wait, and takes no more than `reclaim_max`; a group is free where it was never
-- linked, or where a reclaim has taken it off the limbo list; and what each change comes to.
pub record IsTraceOf (f g : ℕ) (config : Config) (script : List (Change f g))
    (scripts : ℕ → List Deed) (n : ℕ) (replies : List Reply) (beyond : List WriterStep)
    (steps : List TraceStep) : Type 0 where
  pub may_come : IsTrace (blank_initial_state f g config) (map Writer beyond ++ steps)
  pub scripted : AreScripted scripts steps
  pub performed : IsPerformed (blank_initial_state f g config) f g config n initial_state_by_steps
      script replies (beyond ++ writes steps)

-- ---- the run

-- a trace was made by these scripts and this schedule, and that is what the run shows of it
pub record IsRun (f g : ℕ) (config : Config) (script : List (Change f g))
    (scripts : ℕ → List Deed) (schedule : List Actor) (shown : Trace) : Type 0 where
  -- the steps of the run, and those that the writer's last change still needs, the newest first
  pub steps : List TraceStep
  pub beyond : List WriterStep
  -- they are a trace of these changes and deeds, and each reply is what came of its change
  pub trace : IsTraceOf f g config script scripts (writer_items schedule) shown.replies.items beyond
      steps
  -- the writer was cut short by the schedule's end alone; this follows from `scheduled`, too
  pub cut : beyond ≢ [] → length (writes steps) ≡ writer_items schedule
  -- each item of the schedule made one step of its actor, unless that had ended
  pub scheduled : IsScheduled
      (HasEnded config.workers scripts (λ earlier. writes earlier ≡ beyond ++ writes steps))
      (reverse schedule) steps
  -- each step, and each finished lookup and no other
  pub shows_steps : shown.steps.items ≡ all_shown (blank_initial_state f g config) steps
  pub shows_lookups : shown.lookups.items ≡ all_seen steps

-- ---- what holds of a run

-- of each worker the lookups shown are those that it has finished, and no others, in order
abbrev pub ShowsFinished : List TraceStep → List Seen → Type 0
ShowsFinished steps lookups = (worker : ℕ) → seen_of worker lookups
    ≡ reverse (map (seen_by worker) (worker_of worker steps).finished)

-- a table that was just opened with limits in range is one that traces begin with, and what its writer
-- keeps agrees with its steps, of which there are none
abbrev pub InitialStatesAreSettled : Type 0
InitialStatesAreSettled = (f g : ℕ) (config : Config) → IsConfig config
    → IsSettled (blank_initial_state f g config)
    × AgreesWithSteps f g (blank_initial_state f g config) initial_state_by_steps

-- the steps of each run are lawful, it shows what its workers have finished, and after the last change
-- that was answered what the writer keeps agrees with its steps: the groups linked are the blocks of its
-- rules
abbrev pub RunsAreLawful : Type 0
RunsAreLawful = (f g : ℕ) (config : Config) (script : List (Change f g)) (scripts : ℕ → List Deed)
    (schedule : List Actor) (shown : Trace) → IsConfig config
    → (run : IsRun f g config script scripts schedule shown)
    → IsLawful (blank_initial_state f g config) run.steps
    × ShowsFinished run.steps shown.lookups.items
    × AgreesWithSteps f g (blank_initial_state f g config) run.trace.performed.last
