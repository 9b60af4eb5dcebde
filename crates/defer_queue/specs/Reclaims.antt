-- Meaning: what a reclaim does (DPDK Programmer's Guide, "RCU Library", the defer queue: the oldest
-- resources are reclaimed, in order, up to the first whose token some reader hasn't left behind).
-- The items are those of a queue or, in `fib_model`, the names of unlinkings.
use Rattle.std.specs.Prelude.{ℕ, zero, suc, ◌≡◌, ◌≤◌, ◌<◌, ◌⊎◌, List, [], ◌∷◌, Result, Ok, Err, Option, Some, None}
use Rattle.lpm_limits.specs.declared.busy.Busy.{Busy}

-- `checks s item r z`: a check of the item's token, from the state s, gives r and leaves z
-- `frees s item z`: to free the item's group, from s, leaves z
module _ {S I : Type 0} (checks : S → I → Result (Unit {0}) Busy → S → Type 0)
    (frees : S → I → S → Type 0) where
  -- from s on, the first n items were each checked, passed, were removed and freed, which left
  -- these items and z
  abbrev pub FreesFront : ℕ → List I → S → List I → S → Type 0
  FreesFront zero items s left z = (left ≡ items) × (z ≡ s)
  FreesFront (suc n) [] s left z = ⊥
  FreesFront (suc n) (item ∷ rest) s left z =
      (passed : S) × (freed : S) × checks s item (Ok tt) passed
      × frees passed item freed × FreesFront n rest freed left z

  -- then it ended: at the most that it may free or at an empty queue, and nothing more was checked;
  -- or at the front item, whose check failed
  abbrev pub Ends : ℕ → ℕ → List I → S → Option Busy → S → Type 0
  Ends max n left s None z = ((n ≡ max) ⊎ (left ≡ [])) × (z ≡ s)
  Ends max n [] s (Some busy) z = ⊥
  Ends max n (item ∷ rest) s (Some busy) z = (n < max) × checks s item (Err busy) z

  -- a reclaim of at most `max` from these items and s freed so many and was stopped by this worker,
  -- if by a worker, which left these items and z
  pub record Reclaims (max : ℕ) (items : List I) (s : S)
      (freed : ℕ) (stopped : Option Busy) (left : List I) (z : S) : Type 0 where
    pub at_most : freed ≤ max
    pub last : S
    pub front : FreesFront freed items s left last
    pub end : Ends max freed left last stopped z
