-- This layer's own: what a command of a writer needs, and what it leaves (this project's).
use Rattle.std.specs.Prelude.{ℕ, List, suc, ◌≡◌, ◌<◌, Some, ◌++◌, Option, Result, slice_set}
use Rattle.lpm_trace.specs.declared.step.WriterStep.{WriterStep}
use Rattle.lpm_trace.specs.States.{InitialState, state_after}
use Rattle.defer_queue.specs.declared.Reclaimed.{Reclaimed}
use Rattle.fib_model.specs.State.{State, Reclaims}
use Rattle.lpm_writer.specs.declared.control.ControlState.{ControlState}
use Rattle.lpm_writer.specs.MemorySteps.{WithSteps, Checks, by_writer}
use Rattle.lpm_writer.specs.Rest.{IsResting, state_of}
use Rattle.lpm_groups.specs.declared.GroupState.{GroupState}
use Rattle.lpm_groups.specs.declared.GroupState.TheVariants.{Free}
use Rattle.lpm_groups.specs.States.{IsLimboAt}
use Rattle.lpm_limits.specs.declared.busy.Busy.{Busy}
use Rattle.lpm_limits.specs.declared.config.Config.{Config}
use Rattle.lpm_rules.specs.RuleMap.{RuleList}
use Rattle.lpm_trace.specs.Progress.{Check, next_to_load}
use Rattle.lpm_trace.specs.Writer.{progress_after}
use Rattle.lpm_writer.specs.declared.pool.GroupPool.{GroupPool}
use Rattle.lpm_writer.specs.GroupsMatch.{HasNothingDue, SameState, GroupsMatchSteps, MayLoadCounters, MayReclaim, OnlyChecks, Remembers}
use Rattle.lpm_writer.specs.Steps.{StoresOnce}
use Rattle.lpm_writer.specs.Limbo.{tokens_of, AreWaiting}

-- the writer rests with this control state
abbrev pub Rests : {first second : ℕ} → InitialState → List WriterStep → ControlState first second → Type 0
Rests {first} {second} c steps l = IsResting first second c steps l.config l.rules l.pool l.versions

-- the writer rests after some steps that may have led to the memory, as `did` tells them
abbrev pub MayCommand : {first second : ℕ} {M : Type 0} → (M → InitialState → List WriterStep → Type 0)
    → ControlState first second → M → Type 0
MayCommand did l m = (c : InitialState) × (steps : List WriterStep) × did m c steps × Rests c steps l

-- whatever steps may have led to the memory m, the writer rests again after some that may have led to z; P is
-- what came of it
abbrev pub Commands : {first second : ℕ} {M : Type 0} → (M → InitialState → List WriterStep → Type 0)
    → ControlState first second → M → ControlState first second → M
    → (InitialState → State (WithSteps M) → State (WithSteps M) → Type 0) → Type 0
Commands did old m new z P = (c : InitialState) (steps : List WriterStep) → did m c steps → Rests c steps old
    → (later : List WriterStep) × did z c later × Rests c later new
    × P c (state_of old.rules.rules (m, steps) old.pool old.versions)
    (state_of new.rules.rules (z, later) new.pool new.versions)

-- A control state whose token was started, before a check of it has passed (DPDK Programmer's
-- Guide, "RCU Library", and `rte_rcu_qsbr_synchronize` of its API).

-- a check of the newest token is due, from worker 0 on; where there are no workers nothing is due
pub record IsAwaited (c : InitialState) (steps : List WriterStep) : Type 0 where
  pub alone : c.workers ≡ 0 → HasNothingDue c steps
  pub next_step : 0 < c.workers → (progress_after c steps).next_step ≡ Check (state_after c steps).token
  pub awaited : 0 < c.workers → (progress_after c steps).awaited ≡ Some (state_after c steps).token
  pub next : next_to_load (state_after c steps) (state_after c steps).token ≡ 0

-- The control state rested after some steps. After these a token was started besides, and no check of it has
-- passed; all else is as it was.
pub record IsWaiting (first second : ℕ) (c : InitialState) (steps : List WriterStep) (config : Config)
    (rules : RuleList) (pool : GroupPool) (updates_begun : ℕ) : Type 0 where
  pub older : List WriterStep
  pub rested : IsResting first second c older config rules pool updates_begun
  pub quiet : SameState (state_after c older) (state_after c steps)
  pub started : (state_after c steps).token ≡ suc (state_after c older).token
  pub passed : (state_after c steps).passed ≡ (state_after c older).passed
  pub unpassed : (state_after c steps).passed < (state_after c steps).token
  pub due : IsAwaited c steps
  pub once : StoresOnce steps

-- Groups in limbo that are freed, by the writer's steps (this project's).

-- after some steps that may have led to the memory, as `did` tells them, a check of the oldest item may begin;
-- the groups are what those say, where others may wait behind the items, and one may be held
pub record MayFree {M : Type 0} (did : M → InitialState → List WriterStep → Type 0) (m : M)
    (states : List GroupState) (passed : ℕ) (items : List (ℕ × ℕ)) : Type 0 where
  pub initial : InitialState
  pub steps : List WriterStep
  pub behind : List (ℕ × ℕ)
  pub held : Option ℕ
  pub led : did m initial steps
  pub groups : GroupsMatchSteps initial steps states (items ++ behind) passed held
  pub may : MayReclaim initial steps items

-- these items may be freed in their order, each after a check of its token
pub record IsReclaimable {M : Type 0} (did : M → InitialState → List WriterStep → Type 0) (m : M)
    (states : List GroupState) (passed : ℕ) (items : List (ℕ × ℕ)) : Type 0 where
  pub waiting : AreWaiting states items
  pub may : MayFree did m states passed items

-- the check of the oldest item has passed: its group may be freed, and then those behind it
pub record HasPassedFront {M : Type 0} (did : M → InitialState → List WriterStep → Type 0) (m : M)
    (states : List GroupState) (passed : ℕ) (item : ℕ × ℕ) (rest : List (ℕ × ℕ)) : Type 0 where
  pub limbo : IsLimboAt states item.0
  pub behind : IsReclaimable did m (slice_set states item.0 Free) passed rest

-- A check of a token leads from m, where the greatest that had passed was `passed`, to z, where it is
-- `later_passed`: whatever steps may have led to m, a check's steps after them may have led to z.
abbrev pub ChecksBy : {M : Type 0} → (M → InitialState → List WriterStep → Type 0)
    → (M → WriterStep → M → Type 0) → M → ℕ → ℕ → Result (Unit {0}) Busy → M → ℕ → Type 0
ChecksBy did does m passed token result z later_passed = (c : InitialState) (steps : List WriterStep)
    → did m c steps → Remembers c steps passed → (passed < token → MayLoadCounters c steps token)
    → (later : List WriterStep) × did z c later × Checks does c (m, steps) token result (z, later)
    × Remembers c later later_passed

-- at most `most` of the groups that waited were freed, as the result tells: whatever steps may have led to the
-- memory m, checks alone were made up to z
pub record FreesAt {M : Type 0} (did : M → InitialState → List WriterStep → Type 0)
    (does : M → WriterStep → M → Type 0) (m : M) (old : GroupPool) (most : ℕ) (result : Reclaimed)
    (z : M) (new : GroupPool) : Type 0 where
  pub after : (c : InitialState) (steps : List WriterStep) (tail : List (ℕ × ℕ)) (held : Option ℕ)
      → did m c steps → GroupsMatchSteps c steps old.groups (old.queue.items ++ tail) old.passed held
      → MayReclaim c steps old.queue.items
      → (later : List WriterStep) × did z c later × OnlyChecks c steps later
      × GroupsMatchSteps c later new.groups (new.queue.items ++ tail) new.passed held
      × Reclaims (by_writer does c) (m, steps) most (tokens_of old.queue.items) result.freed
      result.stopped (tokens_of new.queue.items) (z, later)
