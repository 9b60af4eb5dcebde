-- Meaning: tables that open with the routes of a list (DPDK Programmer's Guide, "LPM Library", "Addition": a rule
-- for a prefix that has one takes its place).
use Rattle.std.specs.Prelude.{ℕ, ℤ, ◌≡◌, ◌<◌, ◌≤◌, ◌^◌, ◌⊎◌, All, List, Option, IsSomeAnd, length, map, slice_get, take}
use Rattle.lpm_bits.specs.Network.{prefix_of}
use Rattle.lpm_rules.specs.RuleMap.{RuleMap, rules_of}
use Rattle.lpm_rules.specs.declared.Rule.{Rule}
use Rattle.lpm_limits.specs.Limits.{IsConfig}
use Rattle.lpm_limits.specs.declared.config.Config.{Config}
use Rattle.fib_model.specs.Outcomes.{AreSufficient, AreTooSmall}
use Rattle.fib.specs.Fib.{FibState, initial_fib_with}
use Rattle.saxiko_c.specs.Status.{OpensIt, no_memory, invalid, no_space, too_big, out_of_domain}
use Rattle.saxiko_c.specs.Table.{IsBad}
use Rattle.saxiko_c.specs.declared.records.SaxikoRoute.{SaxikoRoute}
use Rattle.saxiko_c.specs.RunningTable.{StagedOwner, IsInitial}

-- the rule that a route gives
abbrev pub rule_of : SaxikoRoute → Rule 24 8
rule_of route = record { prefix = prefix_of 32 route.depth route.addr; hop = route.hop }

-- it gives none
abbrev pub IsBadRoute : SaxikoRoute → Type 0
IsBadRoute route = IsBad route.depth route.hop

-- the rules that routes give: a prefix that comes more than once has its last hop
abbrev pub rules_of_routes : List SaxikoRoute → RuleMap
rules_of_routes routes = rules_of (map rule_of routes)

-- the first route that gives no rule stands here
pub record IsFirstBad (routes : List SaxikoRoute) (place : ℕ) : Type 0 where
  pub bad : IsSomeAnd (slice_get routes place) IsBadRoute
  pub before : All (λ route. ¬ IsBadRoute route) (take place routes)

-- the most routes that can be sorted
abbrev pub most_routes : ℕ
most_routes = 2 ^ 26

-- they can be read: they are no more than can be sorted, and each gives a rule
pub record AreReadable (routes : List SaxikoRoute) : Type 0 where
  pub few : length routes ≤ most_routes
  pub good : All (λ route. ¬ IsBadRoute route) routes

-- the routes were not read: E2BIG, and else EDOM and the place of the first that gives no rule, or ENOMEM
abbrev pub IsUnread : List SaxikoRoute → ℕ → ℕ → ℤ → Type 0
IsUnread routes before after status =
    ((status ≡ too_big) × (most_routes < length routes) × (after ≡ before))
    ⊎ ((length routes ≤ most_routes) × (((status ≡ out_of_domain) × IsFirstBad routes after)
    ⊎ ((status ≡ no_memory) × (after ≡ before))))

-- no table was opened: as IsUnread says, or else EINVAL, and else ENOSPC
abbrev pub IsUnloaded : Config → List SaxikoRoute → ℕ → ℕ → ℤ → Type 0
IsUnloaded c routes before after status =
    IsUnread routes before after status
    ⊎ (AreReadable routes × (after ≡ before)
    × (((status ≡ invalid) × ¬ IsConfig c)
    ⊎ ((status ≡ no_space) × IsConfig c × AreTooSmall 24 8 c (rules_of_routes routes))))

-- the table has the rules of the routes, as version 0
pub record IsLoaded (c : Config) (routes : List SaxikoRoute) (before after : ℕ) (f : FibState) : Type 0 where
  pub table : f ≡ initial_fib_with c (rules_of_routes routes)
  pub readable : AreReadable routes
  pub limits : IsConfig c
  pub suffice : AreSufficient 24 8 c (rules_of_routes routes)
  pub unchanged : after ≡ before

-- a closed handle has a table with the rules then; an open one stays as it is
abbrev pub Loads : Config → List SaxikoRoute → ℕ → ℕ → Option FibState → ℤ → Option FibState → Type 0
Loads c routes before after =
    OpensIt (IsUnloaded c routes before after) (IsLoaded c routes before after) (after ≡ before)

-- A running table that opens with the routes of a list (this project's).

-- the routes can be read, the limits suffice, and the table has the rules of the routes
abbrev pub IsLoadedRunning : Config → List SaxikoRoute → StagedOwner → Type 0
IsLoadedRunning c routes o =
    AreReadable routes × AreSufficient 24 8 c (rules_of_routes routes)
    × IsInitial c (rules_of_routes routes) o

-- a closed handle has a table with the rules of the routes then; an open one stays as it is
abbrev pub LoadsRunning : Config → List SaxikoRoute → ℕ → ℕ → Option StagedOwner → ℤ → Option StagedOwner → Type 0
LoadsRunning c routes before after =
    OpensIt (IsUnloaded c routes before after) (λ o. (after ≡ before) × IsLoadedRunning c routes o)
    (after ≡ before)
