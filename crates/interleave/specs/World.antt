-- Meaning: the memory of the pure world, as traces tell it: the schedule's items that are used up have
-- made this trace, and what the writer has done since the schedule ended comes after it (this
-- project's: a schedule names who makes the next step).
use Rattle.std.specs.Prelude.{◌≡◌, ℕ, suc, ◌≤◌, ◌⊎◌, ⊤, List, [], ◌∷◌, ◌≢◌, ◌+◌, ◌*◌, ◌^◌, ◌<◌, Option, Some, None, ◌++◌, length, map, reverse, take, replicate, slice_index_or, true, false}
use Rattle.lpm_trace.specs.declared.shown_step.Actor.{Actor}
use Rattle.lpm_trace.specs.declared.shown_step.Actor.TheVariants.{Writer as WriterActor, Worker as WorkerActor}
use Rattle.lpm_trace.specs.declared.deed.Deed.{Deed}
use Rattle.lpm_trace.specs.declared.step.TraceStep.{TraceStep}
use Rattle.lpm_trace.specs.declared.step.TraceStep.TheVariants.{Writer, Worker as ByWorker}
use Rattle.lpm_trace.specs.Trace.{worker_of, IsTrace, writes, initial_worker}
use Rattle.interleave.specs.Scripts.{IsScripted, IsDone, steps_by, IsSound}
use Rattle.lpm_trace.specs.declared.shown_step.Step.{Step}
use Rattle.lpm_trace.specs.declared.step.WriterStep.{WriterStep}
use Rattle.lpm_cells.specs.Words.{word_of}
use Rattle.lpm_cells.specs.declared.entry.Entry.TheVariants.{Miss}
use Rattle.lpm_trace.specs.States.{InitialState, state_after}
use Rattle.lpm_trace.specs.Writer.{MayStep}
use Rattle.interleave.specs.declared.finished_lookups.Seen.{Seen}
use Rattle.interleave.specs.declared.worker.Worker.{Worker as Machine}
use Rattle.interleave.specs.Machine.{IsAt}
use Rattle.interleave.specs.Record.{all_shown, all_seen}
use Rattle.interleave.specs.View.{WorldView, script_at}

-- A trace that was made by a schedule: each item makes one step of its actor, unless that has ended
-- (this project's).

-- the step is one of this actor
abbrev pub IsBy : Actor → TraceStep → Type 0
IsBy WriterActor (Writer s) = ⊤
IsBy WriterActor (ByWorker k s) = ⊥
IsBy (WorkerActor j) (Writer s) = ⊥
IsBy (WorkerActor j) (ByWorker k s) = j ≡ k

-- after these steps the actor has none left: there is no such worker, or its script is done; or the
-- writer is done, by what that means
abbrev pub HasEnded : ℕ → (ℕ → List Deed) → (List TraceStep → Type 0) → Actor → List TraceStep
    → Type 0
HasEnded workers scripts writer_is_done WriterActor steps = writer_is_done steps
HasEnded workers scripts writer_is_done (WorkerActor k) steps =
    (workers ≤ k) ⊎ IsDone (scripts k) (worker_of k steps) (steps_by k steps)

-- each of these items, the newest first, made one step of its actor, or none where that had ended;
-- and there are no other steps. `ended` says when an actor has ended.
abbrev pub IsScheduled : (Actor → List TraceStep → Type 0) → List Actor → List TraceStep → Type 0
IsScheduled ended [] steps = steps ≡ []
IsScheduled ended (item ∷ items) steps = (ended item steps × IsScheduled ended items steps)
    ⊎ ((step : TraceStep) × (earlier : List TraceStep) × (steps ≡ step ∷ earlier)
    × IsBy item step × IsScheduled ended items earlier)

-- how many of these items are the writer's
abbrev pub writer_items : List Actor → ℕ
writer_items [] = 0
writer_items (WriterActor ∷ items) = suc (writer_items items)
writer_items (WorkerActor k ∷ items) = writer_items items

-- each worker's steps are those of its script, as far as it came
abbrev pub AreScripted : (ℕ → List Deed) → List TraceStep → Type 0
AreScripted scripts steps = (k : ℕ) → IsScripted (scripts k) k steps

-- the writer has no step left: at no time, or once its steps are these
abbrev pub IsDoneAfter : Option (List WriterStep) → List TraceStep → Type 0
IsDoneAfter None steps = ⊥
IsDoneAfter (Some whole) steps = writes steps ≡ whole

-- the whole trace: what was recorded, and what the writer did after the schedule's end
abbrev pub with_beyond : List WriterStep → List TraceStep → List TraceStep
with_beyond beyond steps = map Writer beyond ++ steps

-- the items that are used up, the newest first
abbrev pub used_items : List Actor → ℕ → List Actor
used_items schedule next = reverse (take next schedule)

-- this is worker k
abbrev pub IsWorker : List Machine → ℕ → Machine → Type 0
IsWorker machines k machine = (other : Machine) → slice_index_or machines k other ≡ machine

-- each worker has come so far in its script as its steps of the trace tell
abbrev pub AreAt : ℕ → ℕ → ℕ → List Machine → List (List Deed) → List TraceStep → Type 0
AreAt first second seconds machines scripts steps =
    (k : ℕ) → k < length scripts → (machine : Machine) × IsWorker machines k machine
    × IsAt first second seconds machine (script_at scripts k) (worker_of k steps) (steps_by k steps)

-- from the initial state c the used items made the trace, and beyond its end the writer made the steps
-- `beyond`; the shared words are what both leave. `whole` tells the writer's steps where it has no more
-- to make; there is none until then
pub record IsWorld (first second : ℕ) (v : WorldView) (c : InitialState) (whole : Option (List WriterStep))
    (trace : List TraceStep) (beyond : List WriterStep) : Type 0 where
  pub first_bits : c.first ≡ first
  pub second_bits : c.second ≡ second
  pub workers : c.workers ≡ length v.scripts
  pub may_come : IsTrace c (with_beyond beyond trace)
  pub words_are : v.words ≡ (state_after c (beyond ++ writes trace)).words
  pub token_is : v.token ≡ (state_after c (beyond ++ writes trace)).token
  pub sequence_is : v.sequence ≡ (state_after c (writes trace)).sequence
  pub made : IsScheduled (HasEnded (length v.scripts) (script_at v.scripts) (IsDoneAfter whole))
      (used_items v.schedule v.next) trace
  pub shown : v.steps ≡ all_shown c trace
  pub finished : v.seen ≡ all_seen trace
  pub at : AreAt first second (length c.words.seconds) v.machines v.scripts trace
  pub at_end : beyond ≢ [] → v.next ≡ length v.schedule
  pub late : beyond ≢ [] → v.stopped ≡ true
  pub in_time : beyond ≡ [] → v.stopped ≡ false

-- from the initial state c the writer's steps so far may be these
abbrev pub WorldDid : ℕ → ℕ → WorldView → InitialState → List WriterStep → Type 0
WorldDid first second v c steps =
    (trace : List TraceStep) × (beyond : List WriterStep)
    × IsWorld first second v c None trace beyond × (steps ≡ beyond ++ writes trace)

-- the scripts and the schedule
abbrev pub scripts_and_schedule : WorldView → List (List Deed) × List Actor
scripts_and_schedule v = (v.scripts, v.schedule)

-- wherever the writer's step may come next in the first memory, it leads to the second, which has the
-- same scripts and schedule
abbrev pub WorldDoes : ℕ → ℕ → WriterStep → WorldView → WorldView → Type 0
WorldDoes first second s v z = (scripts_and_schedule z ≡ scripts_and_schedule v)
    × ((c : InitialState) (steps : List WriterStep) → WorldDid first second v c steps → MayStep c steps s
    → WorldDid first second z c (s ∷ steps))

-- the words, the sequence and the token stay, and so do the scripts and the schedule: all but where the
-- workers stand, how many items are used up, and what was recorded
abbrev pub StaysShared : WorldView → WorldView → Type 0
StaysShared v z =
    z ≡ record v { machines = z.machines; next = z.next; steps = z.steps; seen = z.seen }

-- one more item is used up, and made a step of a worker, or none: the writer's steps stay
abbrev pub TakesTurn : ℕ → ℕ → WorldView → WorldView → Type 0
TakesTurn first second v z =
    (c : InitialState) (whole : Option (List WriterStep)) (trace : List TraceStep)
    → IsWorld first second v c whole trace []
    → (later : List TraceStep) × IsWorld first second z c whole later []
    × (writes later ≡ writes trace)

-- the writer's steps stay, whatever they were, where the workers have taken turns
abbrev pub Reaches : ℕ → ℕ → WorldView → WorldView → Type 0
Reaches first second v z = (c : InitialState) (steps : List WriterStep) → WorldDid first second v c steps
    → WorldDid first second z c steps

-- the next item is the writer's
pub record IsWritersTurn (v : WorldView) : Type 0 where
  pub left : v.next < length v.schedule
  pub item : (other : Actor) → slice_index_or v.schedule v.next other ≡ WriterActor

-- the worker is before its first step, whatever its script
abbrev pub IsNew : Machine → Type 0
IsNew machine = (first second seconds : ℕ) (script : List Deed)
    → IsSound (2 ^ (first + second)) script
    → IsAt first second seconds machine script initial_worker []

-- so many workers are before their first steps
abbrev pub AreNew : ℕ → List Machine → Type 0
AreNew count machines = (k : ℕ) → k < count → (machine : Machine) × IsWorker machines k machine
    × IsNew machine

-- an initial state of these widths, with room for the groups, so many workers and this token, in which each
-- word is a miss
pub record IsInitial (first second groups workers token : ℕ) (c : InitialState) : Type 0 where
  pub first_bits : c.first ≡ first
  pub second_bits : c.second ≡ second
  pub worker_count : c.workers ≡ workers
  pub first_token : c.token ≡ token
  pub firsts : c.words.firsts ≡ replicate (2 ^ first) (word_of Miss)
  pub seconds : c.words.seconds ≡ replicate (groups * 2 ^ second) (word_of Miss)

-- the writer's steps of a command are made, and the workers have taken the rest of their turns: the
-- schedule made the trace, which was recorded; the writer's own steps are those of the trace, and
-- those that the command made after the schedule's end
pub record IsPlayedOut (c : InitialState) (scripts : List (List Deed)) (schedule : List Actor)
    (steps : List WriterStep) (record_steps : List Step) (record_seen : List Seen) : Type 0 where
  pub trace : List TraceStep
  pub beyond : List WriterStep
  pub split : steps ≡ beyond ++ writes trace
  pub may_come : IsTrace c (with_beyond beyond trace)
  pub few : length (writes trace) ≤ writer_items schedule
  pub at_end : beyond ≢ [] → length (writes trace) ≡ writer_items schedule
  pub made : IsScheduled (HasEnded (length scripts) (script_at scripts) (λ earlier. writes earlier ≡ steps))
      (reverse schedule) trace
  pub scripted : AreScripted (script_at scripts) trace
  pub shown : record_steps ≡ all_shown c trace
  pub finished : record_seen ≡ all_seen trace
