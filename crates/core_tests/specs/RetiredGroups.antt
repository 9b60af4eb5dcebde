-- This layer's own: a worked caller of a reclaim keeps the token of each retired group, and 0 for
-- each other group (this project's).
use Rattle.std.specs.Prelude.{ℕ, ◌≡◌, ◌<◌, List, [], ◌∷◌, slice_index}
use Rattle.defer_queue.specs.RetiredGroups.{IsAbsent}

-- the items are of different groups, and each group is retired under its item's token
abbrev pub AreRetired : List ℕ → List (ℕ × ℕ) → Type 0
AreRetired tokens [] = Unit {0}
AreRetired tokens (item ∷ rest) =
    (0 < item.1) × (slice_index tokens item.0 ≡ item.1)
    × IsAbsent item.0 rest × AreRetired tokens rest
