-- Meaning: the two widths of a table (Gupta, Lin and McKeown, INFOCOM 1998, section 3: 24 and 8
-- bits).
use Rattle.std.specs.Prelude.{ℕ, ◌+◌, ◌≤◌}

-- each table is indexed by at least one bit, and an address has at most 32
abbrev pub IsShape : ℕ → ℕ → Type 0
IsShape first second = (1 ≤ first) × (1 ≤ second) × (first + second ≤ 32)
