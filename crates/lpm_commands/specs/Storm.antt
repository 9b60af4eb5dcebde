-- Meaning: the command `storm` (this project's program: each worker looks all addresses up, round
-- after round, while the writer makes the updates; then every answer is held against the versions
-- of the rules).
use Rattle.std.specs.Prelude.{ℕ, ◌≡◌, ◌+◌, ◌⊎◌, Bool, List, Option, filter, map}
use Rattle.lpm_limits.specs.declared.config.Config.{Config}
use Rattle.lpm_limits.specs.declared.refusal.Refusal.TheVariants as refusals
use Rattle.lpm_rules.specs.RuleMap.{rules_of}
use Rattle.qsbr.specs.Counters.{Registry}
use Rattle.fib_model.specs.State.{State}
use Rattle.route_text.specs.declared.routes.Route.{Route}
use Rattle.fib_model.specs.declared.orders.Order.{Order}
use Rattle.route_text.specs.Files.{AreRoutes, AreAddresses}
use Rattle.route_text.specs.Updates.{AreUpdates}
use Rattle.audit.specs.declared.report.StormReport.{StormReport}
use Rattle.audit.specs.Report.{storm_lines}
use Rattle.storm.specs.declared.plan.Plan.{Plan}
use Rattle.storm.specs.declared.plan.StormError.{StormError}
use Rattle.storm.specs.declared.plan.StormError.TheVariants as errors
use Rattle.storm.specs.Storm.{EndsBefore, EndsStorm, IsInRange, limits_of, IsStorm}
use Rattle.storm.specs.Writer.{is_for_writer}
use Rattle.lpm_files.specs.declared.failure.Failure.{Failure}
use Rattle.lpm_files.specs.declared.failure.Failure.TheVariants as failures
use Rattle.lpm_files.specs.Inputs.{Reads, AreRead, EndsAtOne}
use Rattle.lpm_commands.specs.Load.{EndsLoading, IsLoaded, rule_of}
use Rattle.lpm_commands.specs.Apply.{apply_files}

-- the orders for the writer: all but the reports of workers, since a worker of a storm reports by itself
abbrev pub orders_for_writer : List (Order 24 8) → List (Order 24 8)
orders_for_writer orders = filter is_for_writer orders

-- the plan of a storm on a table of these limits, in so many rounds, with a stuck worker or not: the
-- table has the rules of the routes before the threads start
pub record IsPlanOf (c : Config) (rounds : ℕ) (is_stuck : Bool) (list : List Route)
    (orders : List (Order 24 8)) (addrs : List ℕ) (plan : Plan 24 8) : Type 0 where
  pub limits : plan.config ≡ c
  pub stuck : plan.has_stuck_worker ≡ is_stuck
  pub rules : plan.rules.now ≡ map rule_of list
  pub for_writer : plan.orders.now ≡ orders_for_writer orders
  pub addresses : plan.addrs.now ≡ addrs
  pub times : plan.rounds ≡ rounds

-- the report, with so many versions more
abbrev pub with_versions : ℕ → StormReport → StormReport
with_versions n r = record r { table = record r.table { versions = n + r.table.versions } }

-- the text is the report of a storm of this plan, with so many versions more, and its line of wrong
-- answers is `wrong 0`
abbrev pub IsTextOf : Plan 24 8 → ℕ → List ℕ → Type 0
IsTextOf plan n text = (report : StormReport)
    × IsStorm plan report × (report.wrong ≡ 0) × (text ≡ storm_lines (with_versions n report))

-- the routes make a table of the plan's limits, none is refused; it has the rules of the plan, and this is
-- how many of the routes made a version
abbrev pub AreLoaded : Plan 24 8 → List Route → ℕ → Type 0
AreLoaded plan list n = (table : State Registry) × IsLoaded (limits_of plan) list table
    × (table.rules ≡ rules_of plan.rules.now) × (table.updates_begun ≡ n)

-- the text is the report of a storm of this plan, which can be run, on the table of these routes; the
-- versions that these made are counted too
pub record IsTextAfter (plan : Plan 24 8) (list : List Route) (text : List ℕ) : Type 0 where
  pub in_range : IsInRange plan
  pub versions : ℕ
  pub loaded : AreLoaded plan list versions
  pub came : IsTextOf plan versions text

-- the text is the report of a storm of these routes, updates and addresses
abbrev pub IsTextOver : Config → ℕ → Bool → List Route → List (Order 24 8) → List ℕ → List ℕ → Type 0
IsTextOver c rounds is_stuck list orders addrs text = (plan : Plan 24 8)
    × IsPlanOf c rounds is_stuck list orders addrs plan × IsTextAfter plan list text

-- the text is the report of a storm of what the files list; their bytes are known, or not
pub record IsStormText (c : Config) (rounds : ℕ) (is_stuck : Bool)
    (routes updates addresses : Option (List ℕ)) (text : List ℕ) : Type 0 where
  pub list : List Route
  pub orders : List (Order 24 8)
  pub addrs : List ℕ
  pub are_routes : Reads AreRoutes routes list
  pub are_updates : Reads AreUpdates updates orders
  pub are_addrs : Reads AreAddresses addresses addrs
  pub came : IsTextOver c rounds is_stuck list orders addrs text

-- what a storm that came to nothing ends the run with
abbrev pub storm_ending : StormError → Failure
storm_ending errors.NoWorkers = failures.Refused refusals.NoWorkers
storm_ending errors.BadConfig = failures.Refused refusals.BadConfig
storm_ending errors.Exhausted = failures.Refused refusals.Exhausted
storm_ending errors.NoThread = failures.Refused refusals.NoThread
storm_ending errors.Memory = failures.Memory

-- the storm of this plan ends so, on its table
abbrev pub EndsRunning : Plan 24 8 → Failure → Type 0
EndsRunning plan failure =
    (error : StormError) × EndsStorm plan error × (failure ≡ storm_ending error)

-- the storm of this plan, which can be run, ends so: by loading the routes of the file of this path, else
-- on the table that these make
abbrev pub EndsAfter : Plan 24 8 → List ℕ → List Route → Failure → Type 0
EndsAfter plan file list failure = EndsLoading (limits_of plan) file list failure
    ⊎ (((n : ℕ) × AreLoaded plan list n) × EndsRunning plan failure)

-- the storm of this plan ends so: memory is wanted; else it comes to nothing before its table is opened;
-- else by its routes, or on its table
abbrev pub EndsBy : Plan 24 8 → List ℕ → List Route → Failure → Type 0
EndsBy plan file list failure = (failure ≡ failures.Memory)
    ⊎ ((error : StormError) × EndsBefore plan error × (failure ≡ storm_ending error))
    ⊎ (IsInRange plan × EndsAfter plan file list failure)

-- the storm of these routes, updates and addresses ends so
abbrev pub EndsOver : Config → ℕ → Bool → List ℕ → List Route → List (Order 24 8) → List ℕ → Failure
    → Type 0
EndsOver c rounds is_stuck file list orders addrs failure = (failure ≡ failures.Memory)
    ⊎ ((plan : Plan 24 8) × IsPlanOf c rounds is_stuck list orders addrs plan
    × EndsBy plan file list failure)

-- a storm of the files of these paths, whose bytes these are, ends so: by reading one of them, else
-- by the storm; or by a write
abbrev pub EndsStormRun : Config → ℕ → Bool → List ℕ → List ℕ → List ℕ
    → (List ℕ → Option (List ℕ)) → Failure → Type 0
EndsStormRun c rounds is_stuck routes updates addresses bytes failure =
    let files = apply_files routes updates addresses bytes in
    EndsAtOne files failure
    ⊎ (AreRead files × ((list : List Route) × ((orders : List (Order 24 8)) × ((addrs : List ℕ)
    × Reads AreRoutes (bytes routes) list × Reads AreUpdates (bytes updates) orders
    × Reads AreAddresses (bytes addresses) addrs
    × EndsOver c rounds is_stuck routes list orders addrs failure))))
    ⊎ (failure ≡ failures.CannotWrite)
