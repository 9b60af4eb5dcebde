-- An update that runs, by the words and by the writer's steps: how it begins, what it has come to, and when all of
-- its stores are made.
use Rattle.std.specs.Prelude.{ℕ, ◌≡◌, ◌+◌, ◌-◌, ◌<◌, true, List, Option, None}
use Rattle.std.specs.List.{All}
use Rattle.lpm_cells.specs.Words.{hop_in, Words, entry_at}
use Rattle.lpm_update.specs.declared.Did.{Did}
use Rattle.lpm_update.specs.declared.Did.TheVariants.{First, Second, Done}
use Rattle.lpm_update.specs.declared.update.Plan.{Plan}
use Rattle.lpm_update.specs.Laws.{HasCome}
use Rattle.lpm_update.specs.Step.{HasPassed}
use Rattle.lpm_update.specs.Update.{entry_after}
use Rattle.lpm_groups.specs.States.{linked_count}
use Rattle.lpm_limits.specs.declared.config.Config.{Config}
use Rattle.lpm_trace.specs.declared.step.WriterStep.{WriterStep}
use Rattle.lpm_trace.specs.declared.step.WriterStep.TheVariants.{StoreFirst, StoreSecond, EndUpdate}
use Rattle.lpm_trace.specs.States.{InitialState, state_after, addresses, answer, IsAnswer, IsUpdating, updates_done_in, updates_begun_in}
use Rattle.lpm_trace.specs.Writer.{progress_after, MayStep}
use Rattle.lpm_writer.specs.declared.pool.GroupPool.{GroupPool}
use Rattle.fib_model.specs.State.{Unlinks}
use Rattle.lpm_writer.specs.Limbo.{tokens_of}
use Rattle.lpm_writer.specs.MemorySteps.{WithSteps, Stores, by_writer}
use Rattle.lpm_writer.specs.GroupsMatch.{HasNothingDue, GroupsMatchSteps}
use Rattle.lpm_writer.specs.Steps.{since_opened, StoresOnce}
use Rattle.lpm_writer.specs.GroupToFill.{group_to_fill, IsTakenBy, HasWidths}

-- the answer that an address has after the change u of the words t
abbrev pub answer_after : InitialState → Plan → Words → ℕ → Option ℕ
answer_after c u t a = hop_in (entry_after (c.first + c.second) u (entry_at c.second t) a)

-- what the step stored, as a change tells it
abbrev pub stored_by : WriterStep → Did
stored_by (StoreFirst i x) = First i
stored_by (StoreSecond j x) = Second j
stored_by other = Done

-- the change has passed the word that the step stored
abbrev pub HasPassedStore : ℕ → Plan → List ℕ → WriterStep → Type 0
HasPassedStore second v firsts step = HasPassed second (stored_by step) v firsts

-- the change has passed each word that was stored since the newest update was opened
abbrev pub HasPassedStores : ℕ → Plan → List ℕ → List WriterStep → Type 0
HasPassedStores second v firsts steps =
    All (HasPassedStore second v firsts) (since_opened steps)

-- an update that began as u on the words t has come to v
pub record IsMaking (c : InitialState) (steps : List WriterStep) (u : Plan) (t : Words) (v : Plan)
    : Type 0 where
  pub come : HasCome c.first c.second u t v (state_after c steps).words
  pub updating : IsUpdating (state_after c steps)
  pub taken : IsTakenBy v (progress_after c steps).taken
  -- it goes on past each word that it stores, so it stores none twice
  pub passed : HasPassedStores c.second v (state_after c steps).words.firsts steps
  pub once : StoresOnce steps
  -- the answers before and after are those of the versions that are done and begun
  pub old : (a : ℕ) → a < addresses c
      → IsAnswer c ((state_after c steps).history (updates_done_in (state_after c steps))) a (answer c t a)
  pub new : (a : ℕ) → a < addresses c
      → IsAnswer c ((state_after c steps).history (updates_begun_in (state_after c steps))) a (answer_after c u t a)
  -- an address that has changed has its new answer
  pub answer_changed : (a : ℕ) → a < addresses c → (state_after c steps).answer_changed a ≡ true
      → answer c (state_after c steps).words a ≡ answer_after c u t a

-- the update u may begin on these words
pub record MayMake (first second : ℕ) (c : InitialState) (steps : List WriterStep) (u : Plan)
    (pool : GroupPool) : Type 0 where
  pub widths : HasWidths first second c
  pub making : IsMaking c steps u (state_after c steps).words u
  pub idle : HasNothingDue c steps
  pub keeps : GroupsMatchSteps c steps pool.groups pool.queue.items pool.passed
      (group_to_fill u (state_after c steps).words.firsts)

-- the groups that an update gave up went into limbo one after another, with stores before each and
-- after the last
pub record HasUnlinkedSome {M : Type 0} (does : M → WriterStep → M → Type 0) (c : InitialState)
    (config : Config) (x : WithSteps M) (old : GroupPool) (z : WithSteps M) (new : GroupPool) : Type 0 where
  pub last : WithSteps M
  pub stores : ℕ
  pub unlinks : Unlinks (by_writer does c) config
      (linked_count old.groups - linked_count new.groups)
      x (tokens_of old.queue.items) last (tokens_of new.queue.items)
  pub since : Stores does c stores last z

-- all stores of the update are made, and it may be done next
pub record HasMade {M : Type 0} (does : M → WriterStep → M → Type 0) (c : InitialState) (config : Config)
    (m : M) (steps : List WriterStep) (old : GroupPool) (z : M) (later : List WriterStep)
    (new : GroupPool) : Type 0 where
  pub may_close : MayStep c later EndUpdate
  pub idle : HasNothingDue c later
  pub once : StoresOnce later
  pub keeps : GroupsMatchSteps c later new.groups new.queue.items new.passed None
  pub sequence : (state_after c later).sequence ≡ (state_after c steps).sequence
  pub history : (state_after c later).history ≡ (state_after c steps).history
  pub unlinked : HasUnlinkedSome does c config (m, steps) old (z, later) new
