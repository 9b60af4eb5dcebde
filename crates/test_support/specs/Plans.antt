-- This layer's own: plans of runs (this project's).
use Rattle.std.specs.Prelude.{◌≡◌, ℕ, ◌+◌, ◌^◌, ◌≤◌, All, List, length}
use Rattle.lpm_trace.specs.declared.deed.Deed.{Deed}
use Rattle.interleave.specs.Scripts.{IsSound}
use Rattle.test_support.specs.declared.plans.plan.Plan.{Plan}

-- a run can be made by the plan: each worker has a script that it can go through
pub record IsSoundPlan (first second : ℕ) (plan : Plan first second) : Type 0 where
  pub workers : length plan.scripts.items ≡ plan.config.workers
  pub scripts : All (λ script. IsSound (2 ^ (first + second)) script.items) plan.scripts.items

-- the script has at least so many deeds and at most so many
abbrev pub HasDeeds : ℕ → ℕ → List Deed → Type 0
HasDeeds least most deeds = (least ≤ length deeds) × (length deeds ≤ most)
