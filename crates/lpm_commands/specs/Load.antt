-- Meaning: the table that a list of routes makes, and which route it refuses (DPDK Programmer's
-- Guide, "LPM Library", "Addition": a rule for a prefix that has one takes its place).
use Rattle.std.specs.Prelude.{ℕ, ◌≡◌, ◌≢◌, ⊤, List, [], ◌∷◌, ◌++◌, Option, Ok, Err, map}
use Rattle.lpm_limits.specs.declared.config.Config.{Config}
use Rattle.lpm_limits.specs.declared.refusal.Refusal.{Refusal}
use Rattle.lpm_limits.specs.declared.refusal.Refusal.TheVariants.{Memory}
use Rattle.lpm_rules.specs.RuleMap.{RuleMap, rules_of}
use Rattle.lpm_rules.specs.declared.Put.{Put}
use Rattle.lpm_rules.specs.declared.Rule.{Rule}
use Rattle.qsbr.specs.Counters.{Registry}
use Rattle.fib_model.specs.State.{State}
use Rattle.fib_model.specs.Outcomes.{Adds}
use Rattle.fib_model.specs.Counters.{counter_transitions, initial_by_counters}
use Rattle.route_text.specs.declared.routes.Route.{Route}
use Rattle.route_text.specs.Files.{AreRoutes}
use Rattle.lpm_files.specs.declared.failure.Failure.{Failure}
use Rattle.lpm_files.specs.declared.failure.Failure.TheVariants as failures
use Rattle.lpm_files.specs.Inputs.{Reads}

-- the routes are added to s one after another, none is refused, and z is left
abbrev pub Loads : Config → State Registry → List Route → State Registry → Type 0
Loads c s [] z = z ≡ s
Loads c s (route ∷ more) z = (put : Put) × (t : State Registry)
    × Adds counter_transitions 24 8 c s route.prefix route.hop (Ok put) t
    × Loads c t more z

-- the rule that a route puts in
abbrev pub rule_of : Route → Rule 24 8
rule_of route = record { prefix = route.prefix; hop = route.hop }

-- the rules of these routes: a prefix that comes twice has the later hop
abbrev pub rules_of_routes : List Route → RuleMap
rules_of_routes routes = rules_of (map rule_of routes)

-- the table of these routes; it has their rules, its readers are as they were at first, and no
-- group is in limbo
pub record IsLoaded (c : Config) (routes : List Route) (table : State Registry) : Type 0 where
  pub loads : Loads c (initial_by_counters c) routes table
  pub rules : table.rules ≡ rules_of_routes routes
  pub readers : table.readers ≡ (initial_by_counters c).readers
  pub limbo : table.limbo ≡ []

-- the routes before the one on this line make a table, which refuses that one for another reason
-- than want of memory, and stays as it was
pub record IsFirstRefused (c : Config) (routes : List Route) (line : ℕ) (refusal : Refusal)
    : Type 0 where
  pub before : List Route
  pub route : Route
  pub after : List Route
  pub table : State Registry
  pub split : routes ≡ before ++ route ∷ after
  pub number : line ≡ route.line
  pub loaded : IsLoaded c before table
  pub reason : refusal ≢ Memory
  pub refused : Adds counter_transitions 24 8 c table route.prefix route.hop (Err refusal) table

-- loading the routes of the file of this path ends so
abbrev pub EndsLoading : Config → List ℕ → List Route → Failure → Type 0
EndsLoading c file routes (failures.RefusedRoute path line refusal) =
    (path.now ≡ file) × IsFirstRefused c routes line refusal
EndsLoading c file routes failures.Memory = ⊤
EndsLoading c file routes _ = ⊥

-- loading the routes of the file of this path and these bytes ends so
abbrev pub EndsTable : Config → List ℕ → Option (List ℕ) → Failure → Type 0
EndsTable c file known failure =
    (list : List Route) × Reads AreRoutes known list × EndsLoading c file list failure

-- the routes of the file of these bytes make a table, none is refused
abbrev pub HasTable : Config → Option (List ℕ) → Type 0
HasTable c known = (list : List Route)
    × ((table : State Registry) × Reads AreRoutes known list × IsLoaded c list table)
