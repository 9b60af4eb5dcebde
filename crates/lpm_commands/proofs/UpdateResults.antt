-- What came of the updates after the routes, told by reader intervals and versions.
use Rattle.std.proofs.Common.{◌≡◌, ◌∙◌, ap, sym, subst, refl, suc, List, [], ◌∷◌, length, map}
use Rattle.std.specs.FinMap.{len}
use Rattle.lpm_limits.specs.declared.config.Config.{Config}
use Rattle.lpm_rules.specs.declared.Put.{Put}
use Rattle.qsbr.specs.Counters.{Registry}
use Rattle.fib_model.specs.declared.orders.Outcome.{Outcome}
use Rattle.fib_model.specs.declared.orders.Outcome.TheVariants as outcomes
use Rattle.fib_model.specs.declared.event.Event.{Event}
use Rattle.fib_model.specs.State.{State}
use Rattle.fib_model.specs.Outcomes.{Log, Runs, log_after, groups_in_use}
use Rattle.fib_model.specs.Counters.{by_counters, initial_by_counters}
use Rattle.fib_model.specs.Laws.{history, last_of, Agrees}
use Rattle.fib_model.proofs.Versions.{rules_are_last_version}
use Rattle.fib.specs.Fib.{FibState}
use Rattle.route_text.specs.declared.routes.Route.{Route}
use Rattle.fib_model.specs.declared.orders.Order.{Order}
use Rattle.audit.specs.declared.report.TableCounts.{TableCounts}
use Rattle.lpm_commands.specs.Load.{Loads, IsLoaded}
use Rattle.lpm_commands.specs.Apply.{loading_of, ComesOut, IsUpdated}
use Rattle.storm.specs.Storm.{IsCountOf}
use Rattle.lpm_commands.specs.Report.{IsReportOf}

-- the additions of the routes are a log
loads_run : (c : Config) (log : Log 24 8) (s z : State Registry) (routes : List Route) → Runs by_counters 24 8 c (initial_by_counters c) log s → Loads c s routes z → (loaded : List Put) × (length loaded ≡ length routes) × Runs by_counters 24 8 c (initial_by_counters c) (log_after log (map loading_of routes) (map outcomes.Put loaded)) z
loads_run c log s z [] runs same = ([], refl, subst (Runs by_counters 24 8 c (initial_by_counters c) log) (sym same) runs)
loads_run c log s z (r ∷ routes) runs loads =
    let rest = loads_run c ((loading_of r, outcomes.Put loads.0) ∷ log) loads.1 z routes (s, runs, loads.2) loads.3 in
    (loads.0 ∷ rest.0, ap suc rest.1, rest.2)

-- the routes and the updates that came out so after them
pub updated : (c : Config) (routes : List Route) (list : List (Order 24 8)) (came : List Outcome) (x z : State Registry) → IsLoaded c routes x → ComesOut c x list came z → (log : Log 24 8) × ((state : State (List Event)) × IsUpdated c routes list came log state × Agrees c z state)
updated c routes list came x z loaded comes =
    let first = loads_run c [] (initial_by_counters c) x routes refl loaded.loads in
    let log = log_after [] (map loading_of routes) (map outcomes.Put first.0) in
    let told = comes.goes_on log first.2 in (
      log_after log list came,
      (
        told.0,
        record {
          loaded = first.0;
          all_routes = first.1;
          all_orders = comes.all_orders;
          had_memory = comes.had_memory;
          logs = refl;
          runs = told.1;
        },
        told.2,
      ),
    )

-- the table's rules are the last version
pub last_rules : (c : Config) (routes : List Route) (list : List (Order 24 8)) (came : List Outcome) (log : Log 24 8) (z : State Registry) (state : State (List Event)) → IsUpdated c routes list came log state → Agrees c z state → z.rules ≡ last_of (history log)
last_rules c routes list came log z state updated agrees = sym agrees.rules ∙ (rules_are_last_version 24 8 c log state updated.runs).0

-- what the table counts is what is to be reported
pub reported : (c : Config) (routes : List Route) (list : List (Order 24 8)) (came : List Outcome) (log : Log 24 8) (fib : FibState) (state : State (List Event)) (r : TableCounts) → IsUpdated c routes list came log state → Agrees c fib.table state → fib.config ≡ c → IsCountOf 24 8 fib.table fib.config.groups fib.table.readers.token r → IsReportOf c log state r
reported c routes list came log fib state r updated agrees config counts =
    let last = last_rules c routes list came log fib.table state updated agrees in
    let law = rules_are_last_version 24 8 c log state updated.runs in
    record {
      rules = counts.rules ∙ ap (λ R. len R) last;
      versions = counts.versions ∙ (sym agrees.begun ∙ law.1);
      in_use = counts.in_use ∙ ap (groups_in_use 24 8) last;
      limbo = counts.limbo ∙ sym agrees.waiting;
      groups = counts.groups ∙ ap (λ (k : Config). k.groups) config;
      token = counts.token ∙ sym agrees.token;
    }
