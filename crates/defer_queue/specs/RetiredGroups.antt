-- This layer's own: an item of the queue is a group, with the token under which it was retired
-- (this project's).
use Rattle.std.specs.Prelude.{ℕ, ◌≢◌, List, [], ◌∷◌}

-- none of the items has the group
abbrev pub IsAbsent : ℕ → List (ℕ × ℕ) → Type 0
IsAbsent group [] = Unit {0}
IsAbsent group (item ∷ rest) = (item.0 ≢ group) × IsAbsent group rest
