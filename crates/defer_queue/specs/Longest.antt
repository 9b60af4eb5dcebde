-- This layer's own: which items a reclaim takes (DPDK Programmer's Guide, "RCU Library", the
-- defer queue; Fraser, UCAM-CL-TR-579, 2004, epoch-based reclamation).
use Rattle.std.specs.Prelude.{ℕ, ◌≡◌, ◌≤◌, ◌<◌, ◌⊎◌, List, length, take, slice_get, All, Result, Ok, Err, Option, MatchOption, IsSomeAnd}
use Rattle.lpm_limits.specs.declared.busy.Busy.{Busy}

-- where `answers token r` says what a check of the token answers while the reclaim runs: it took
-- the longest front of the items that all pass, but at most `max`. This follows from `Reclaims`,
-- which says what a reclaim does where the answers change meanwhile, too
pub record TakesLongest (answers : ℕ → Result (Unit {0}) Busy → Type 0) (max : ℕ)
    (items : List (ℕ × ℕ)) (freed : ℕ) (stopped : Option Busy) : Type 0 where
  pub at_most : freed ≤ max
  pub within : freed ≤ length items
  pub passed : All (λ item. answers item.1 (Ok tt)) (take freed items)
  -- it ended at `max`, at the queue's end, or at an item whose check failed
  pub end : MatchOption stopped ((freed ≡ max) ⊎ (freed ≡ length items))
      (λ busy. (freed < max)
      × IsSomeAnd (slice_get items freed) (λ item. answers item.1 (Err busy)))
