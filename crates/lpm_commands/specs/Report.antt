-- Meaning: the command `report` (this project's program: the rules, the versions, the groups in use,
-- in limbo and free, and the token after the updates).
use Rattle.std.specs.Prelude.{ℕ, ◌≡◌, ◌+◌, ◌⊎◌, List, [], ◌∷◌, Option, length}
use Rattle.std.specs.FinMap.{len}
use Rattle.lpm_limits.specs.declared.config.Config.{Config}
use Rattle.qsbr.specs.Counters.{Registry}
use Rattle.fib_model.specs.declared.orders.Outcome.{Outcome}
use Rattle.fib_model.specs.declared.event.Event.{Event}
use Rattle.fib_model.specs.State.{State}
use Rattle.fib_model.specs.Outcomes.{Log, groups_in_use}
use Rattle.fib_model.specs.Textbook.{textbook}
use Rattle.fib.specs.Fib.{FibState}
use Rattle.fib_model.specs.Laws.{history, last_of}
use Rattle.route_text.specs.declared.routes.Route.{Route}
use Rattle.fib_model.specs.declared.orders.Order.{Order}
use Rattle.route_text.specs.Files.{AreRoutes}
use Rattle.route_text.specs.Updates.{AreUpdates}
use Rattle.audit.specs.declared.report.TableCounts.{TableCounts}
use Rattle.audit.specs.Report.{report_lines}
use Rattle.storm.specs.Storm.{IsCountOf}
use Rattle.lpm_files.specs.declared.failure.Failure.{Failure}
use Rattle.lpm_files.specs.declared.failure.Failure.TheVariants.{CannotWrite}
use Rattle.lpm_files.specs.Inputs.{Input, Reads, route_file, update_file}
use Rattle.lpm_files.specs.Inputs.{AreRead, EndsAtOne}
use Rattle.lpm_commands.specs.Load.{IsLoaded, EndsTable}
use Rattle.lpm_commands.specs.Apply.{ComesOut, IsUpdated}

-- what is reported after the log: the last version's rules and deep blocks, how many versions and
-- how many unlinkings that wait, and the token number
pub record IsReportOf (c : Config) (log : Log 24 8) (state : State (List Event)) (r : TableCounts)
    : Type 0 where
  pub rules : r.rules ≡ len (last_of (history log))
  pub versions : r.versions ≡ length (history log)
  pub in_use : r.in_use ≡ groups_in_use 24 8 (last_of (history log))
  pub limbo : r.limbo ≡ length state.limbo
  pub groups : r.in_use + r.limbo + r.free ≡ c.groups
  pub token : r.token ≡ (textbook c).token state.readers

-- on a table with these limits in the state x, the updates come out and leave the table z; the text
-- tells what that counts
pub record IsReportedAfter (c : Config) (x : State Registry) (orders : List (Order 24 8)) (z : FibState)
    (text : List ℕ) : Type 0 where
  pub came : List Outcome
  pub report : TableCounts
  pub limits : z.config ≡ c
  pub comes : ComesOut c x orders came z.table
  pub counts : IsCountOf 24 8 z.table z.config.groups z.table.readers.token report
  pub written : text ≡ report_lines report

-- the routes make a table of these limits, none is refused, and the text is the report after the
-- updates that follow
abbrev pub IsReportedOver : Config → List Route → List (Order 24 8) → List ℕ → Type 0
IsReportedOver c list orders text = (x : State Registry) × ((fib : FibState)
    × IsLoaded c list x × IsReportedAfter c x orders fib text)

-- the text is the report after the routes and the updates; the files' bytes are known, or not
pub record IsReportText (c : Config) (routes updates : Option (List ℕ)) (text : List ℕ)
    : Type 0 where
  pub list : List Route
  pub orders : List (Order 24 8)
  pub came : List Outcome
  pub log : Log 24 8
  pub state : State (List Event)
  pub report : TableCounts
  pub are_routes : Reads AreRoutes routes list
  pub are_updates : Reads AreUpdates updates orders
  pub updated : IsUpdated c list orders came log state
  pub reported : IsReportOf c log state report
  pub written : text ≡ report_lines report

-- the files of a report, of these paths and bytes
abbrev pub report_files : List ℕ → List ℕ → (List ℕ → Option (List ℕ)) → List Input
report_files routes updates bytes =
    route_file routes (bytes routes) ∷ update_file updates (bytes updates) ∷ []

-- a report of the files of these paths, whose bytes these are, ends so: by reading one of them, else
-- by loading the routes; or by a write
abbrev pub EndsReport : Config → List ℕ → List ℕ → (List ℕ → Option (List ℕ)) → Failure → Type 0
EndsReport c routes updates bytes failure =
    let files = report_files routes updates bytes in
    EndsAtOne files failure
    ⊎ (AreRead files × EndsTable c routes (bytes routes) failure)
    ⊎ (failure ≡ CannotWrite)
