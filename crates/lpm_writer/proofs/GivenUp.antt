-- A group that a change gives up: what stands when its link was stored over, and when it waits in limbo.
use Rattle.std.specs.Prelude.{ℕ, ◌≡◌, suc, List, [], ◌∷◌, ◌++◌, slice_set, Option, None}
use Rattle.lpm_groups.specs.declared.GroupState.TheVariants.{Limbo}
use Rattle.lpm_limits.specs.declared.config.Config.{Config}
use Rattle.fib_model.specs.State.{MakesRoom}
use Rattle.lpm_trace.specs.declared.step.WriterStep.{WriterStep}
use Rattle.lpm_trace.specs.declared.step.WriterStep.TheVariants.{BumpToken}
use Rattle.lpm_trace.specs.States.{InitialState, state_after}
use Rattle.lpm_trace.specs.Progress.{Bump}
use Rattle.lpm_trace.specs.Writer.{progress_after}
use Rattle.lpm_writer.specs.declared.pool.GroupPool.{GroupPool}
use Rattle.lpm_writer.specs.GroupsMatch.{AreBelow, GroupsMatchState, HasNothingDue, Remembers, SameState}
use Rattle.lpm_writer.specs.MemorySteps.{WithSteps, Goes, by_writer, state_of_traced}

-- the update has just stored over the link of this group. The token is bumped next: from then on the
-- group is retired under that token, behind the groups that wait.
pub record HasUnlinked (c : InitialState) (steps : List WriterStep) (pool : GroupPool) (group : ℕ)
    (held : Option ℕ) : Type 0 where
  pub next_step : (progress_after c steps).next_step ≡ Bump
  pub awaited : (progress_after c steps).awaited ≡ None
  pub kept : GroupsMatchState c (state_after c steps) (suc (state_after c steps).token)
      (slice_set pool.groups group Limbo)
      (pool.queue.items ++ (group, suc (state_after c steps).token) ∷ []) held
  pub remembers : Remembers c steps pool.passed
  -- each group that waited was retired under a token that had been started
  pub started : AreBelow (suc (state_after c steps).token) pool.queue.items

-- the token was bumped once, and checks were made at most
pub record HasRetired (c : InitialState) (steps later : List WriterStep) : Type 0 where
  pub quiet : SameState (state_after c steps) (state_after c later)
  pub token : (state_after c later).token ≡ suc (state_after c steps).token
  pub taken : (progress_after c later).taken ≡ (progress_after c steps).taken
  pub idle : HasNothingDue c later

-- a token was started for a group that was just unlinked, room was made in limbo, and the group went
-- last into it
abbrev pub Retires : {M : Type 0} → (M → WriterStep → M → Type 0) → InitialState → Config → WithSteps M
    → List ℕ → WithSteps M → List ℕ → Type 0
Retires {M} does c config x limbo z limbo' = (y : WithSteps M) × (left : List ℕ)
    × Goes does x BumpToken y × MakesRoom (by_writer does c) config y limbo left z
    × (limbo' ≡ left ++ (state_of_traced c y).token ∷ [])
