-- A synchronize that goes on: a token was started, and a worker stopped each check of it so far.
use Rattle.std.proofs.Common.{arith, ◌≡◌, ℕ, suc, ap, ◌∙◌, subst, List, Err}
use Rattle.lpm_limits.specs.declared.busy.Busy.{Busy}
use Rattle.lpm_limits.specs.declared.config.Config.{Config}
use Rattle.lpm_rules.specs.RuleMap.{RuleList}
use Rattle.lpm_trace.specs.declared.step.WriterStep.{WriterStep}
use Rattle.lpm_trace.specs.declared.step.WriterStep.TheVariants.{BumpToken}
use Rattle.lpm_trace.specs.States.{InitialState, state_after}
use Rattle.lpm_writer.specs.declared.pool.GroupPool.{GroupPool}
use Rattle.lpm_trace.proofs.Versions.{token_is}
use Rattle.lpm_writer.specs.MemorySteps.{Goes, Checks}
use Rattle.lpm_writer.specs.Rest.{IsResting}
use Rattle.lpm_writer.specs.Commands.{IsWaiting}
use Rattle.lpm_writer.proofs.Checks.{check_stops}
use Rattle.lpm_writer.proofs.StepsAlone.{checks_alone}
use Rattle.interleave.specs.Runs.{Waits, next_token}

module _ {M : Type 0} (did : M → InitialState → List WriterStep → Type 0) (first second : ℕ) where
  -- from m a token was started, and n checks of it were stopped, which led to z
  abbrev pub HasWaited : M → Config → RuleList → GroupPool → ℕ → ℕ → M → Type 0
  HasWaited m config rules pool begun n z = (c : InitialState) (steps : List WriterStep) → did m c steps
      → IsResting first second c steps config rules pool begun
      → (later : List WriterStep) × did z c later × IsWaiting first second c later config rules pool begun
      × ((state_after c later).token ≡ next_token c steps) × Waits c n steps later

  pub waited_none : (does : M → WriterStep → M → Type 0) (m z : M) (config : Config) (rules : RuleList) (pool : GroupPool) (begun : ℕ)
      → ((c : InitialState) (steps : List WriterStep) → did m c steps → IsResting first second c steps config rules pool begun
      → (later : List WriterStep) × did z c later × Goes does (m, steps) BumpToken (z, later) × IsWaiting first second c later config rules pool begun)
      → HasWaited m config rules pool begun 0 z
  waited_none does m z config rules pool begun starts c steps did_it rests =
      let s = starts c steps did_it rests in
      let token : (state_after c s.0).token ≡ suc (state_after c steps).token = ap (λ w. (state_after c w).token) s.2.1 in
      (s.0, s.1, s.3, omega (arith, token, token_is c steps), s.2.1)

  pub waited_more : (does : M → WriterStep → M → Type 0) (m y z : M) (config : Config) (rules : RuleList) (pool : GroupPool) (begun n token : ℕ) (busy : Busy)
      → HasWaited m config rules pool begun n y
      → ((c : InitialState) (steps : List WriterStep) → did y c steps → token ≡ (state_after c steps).token)
      → ((c : InitialState) (steps : List WriterStep) → did y c steps → IsWaiting first second c steps config rules pool begun
      → (later : List WriterStep) × did z c later × Checks does c (y, steps) token (Err busy) (z, later) × IsWaiting first second c later config rules pool begun)
      → HasWaited m config rules pool begun (suc n) z
  waited_more does m y z config rules pool begun n token busy waited newest checks c steps did_it rests =
      let so_far = waited c steps did_it rests in
      let now = checks c so_far.0 so_far.1 so_far.2 in
      let is : token ≡ next_token c steps = newest c so_far.0 so_far.1 ∙ so_far.3 in
      let check : Checks does c (y, so_far.0) (next_token c steps) (Err busy) (z, now.0) = subst (λ t. Checks does c (y, so_far.0) t (Err busy) (z, now.0)) is now.2 in (
        now.0,
        now.1,
        now.3,
        (check_stops does c (y, so_far.0) (next_token c steps) busy (z, now.0) check).token ∙ so_far.3,
        (so_far.0, busy, so_far.4, checks_alone M does c (y, so_far.0) (z, now.0) (next_token c steps) (Err busy) check),
      )
