-- Meaning: the limits of a table (this project's profile; next hops and group numbers have 24 and
-- 16 bits, and a token fits a word of 64 bits with room to spare).
use Rattle.std.specs.Prelude.{ℕ, ◌≤◌, ◌^◌}
use Rattle.lpm_limits.specs.declared.config.Config.{Config}
use Rattle.lpm_limits.specs.declared.config.Range.{Range}

-- the range from the first number to the last
abbrev pub range : ℕ → ℕ → Range
range first last = record { first = first; last = last }

abbrev pub rules_range : Range
rules_range = range 1 16777216

abbrev pub groups_range : Range
groups_range = range 1 65536

abbrev pub workers_range : Range
workers_range = range 0 2048

abbrev pub threshold_range : Range
threshold_range = range 0 65536

abbrev pub reclaim_range : Range
reclaim_range = range 1 65536

abbrev pub token_range : Range
token_range = range 1 (2 ^ 62)

-- the number lies in the range
abbrev pub IsIn : Range → ℕ → Type 0
IsIn r n = (r.first ≤ n) × (n ≤ r.last)

-- each limit lies in its range
pub record IsConfig (c : Config) : Type 0 where
  pub rules : IsIn rules_range c.rules
  pub groups : IsIn groups_range c.groups
  pub workers : IsIn workers_range c.workers
  pub threshold : IsIn threshold_range c.threshold
  pub reclaim_max : IsIn reclaim_range c.reclaim_max
  pub first_token : IsIn token_range c.first_token

-- the limits of a table where none is asked for
abbrev pub default_config : Config
default_config = record {
  rules = 1048576;
  groups = 256;
  workers = 1;
  threshold = 32;
  reclaim_max = 16;
  first_token = 1;
}
