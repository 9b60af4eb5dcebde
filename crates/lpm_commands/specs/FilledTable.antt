-- This layer's own: a table into which rules were put, told without the tables on the way, and
-- which rule such a table refuses (DPDK Programmer's Guide, "LPM Library", "Addition"; the order
-- of the checks is this project's).
use Rattle.std.specs.Prelude.{ℕ, ◌≡◌, ◌+◌, ◌<◌, ◌≤◌, ◌^◌, ⊤, [], None, ◌⊎◌, Bool, List, nat_lt, count_by}
use Rattle.std.specs.FinMap.{len}
use Rattle.lpm_bits.specs.Network.{Network}
use Rattle.lpm_limits.specs.declared.config.Config.{Config}
use Rattle.lpm_limits.specs.declared.refusal.Refusal.{Refusal}
use Rattle.lpm_limits.specs.declared.refusal.Refusal.TheVariants.{TooManyRules, NoGroups, Memory}
use Rattle.lpm_rules.specs.RuleMap.{RuleMap, RuleList, HasRoomFor, LacksRoomFor}
use Rattle.lpm_rules.specs.Deep.{IsDeepBlock, block_of}
use Rattle.qsbr.specs.Counters.{Registry}
use Rattle.fib_model.specs.State.{State}
use Rattle.fib_model.specs.Outcomes.{AreSufficient, groups_in_use}
use Rattle.fib_model.specs.Counters.{initial_by_counters}
use Rattle.route_text.specs.declared.routes.Route.{Route}

-- the table is as it was opened but for its rules, which fit, and its versions; where it has rules,
-- the tokens last for its groups
pub record IsFilled (c : Config) (table : State Registry) : Type 0 where
  pub readers : table.readers ≡ (initial_by_counters c).readers
  pub limbo : table.limbo ≡ []
  pub fits : AreSufficient 24 8 c table.rules
  pub tokens : 0 < len table.rules → c.first_token + c.groups ≤ 2 ^ 62

-- a rule of the prefix is the first one longer than 24 bits in its block
abbrev pub BringsGroup : RuleMap → Network → Type 0
BringsGroup R p = (24 < p.len) × ¬ IsDeepBlock 24 8 R (block_of 8 p)

-- a table with these rules and so many groups, none of which is in limbo, refuses a rule of the
-- prefix so; for want of memory it may refuse any
abbrev pub Refuses : ℕ → RuleList → Network → Refusal → Type 0
Refuses groups l p TooManyRules = LacksRoomFor l p
Refuses groups l p (NoGroups oldest) = HasRoomFor l p × BringsGroup l.rules p
    × (groups ≤ groups_in_use 24 8 l.rules) × (oldest ≡ None)
Refuses groups l p Memory = ⊤
Refuses groups l p refusal = ⊥

-- How many groups a table of routes needs (Gupta, Lin and McKeown, INFOCOM 1998, section 3: a group
-- of second words stands behind each first word whose block has a prefix longer than 24 bits, so
-- one for each such route is enough).

-- the route's prefix is longer than 24 bits
abbrev pub is_long : Route → Bool
is_long route = nat_lt 24 route.prefix.len

-- how many such routes there are
abbrev pub long_routes : List Route → ℕ
long_routes routes = count_by is_long routes

-- so many groups do for these routes: all that are given; or fewer, but one for each long route,
-- where the tokens last for all that are given
abbrev pub IsEnough : Config → List Route → ℕ → Type 0
IsEnough c routes n = (n ≡ c.groups)
    ⊎ ((n ≤ c.groups) × (long_routes routes ≤ n) × (c.first_token + c.groups ≤ 2 ^ 62))
