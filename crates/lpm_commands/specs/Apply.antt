-- Meaning: the command `apply` (this project's program: a line for what came of each update, then a
-- line for each address; a refused update doesn't stop the file).
use Rattle.std.specs.Prelude.{◌≡◌, ◌≢◌, List, [], length, map, All, ℕ, ◌⊎◌, ◌∷◌, ◌++◌, Option}
use Rattle.lpm_limits.specs.declared.config.Config.{Config}
use Rattle.lpm_limits.specs.declared.refusal.Refusal.TheVariants.{Memory}
use Rattle.lpm_rules.specs.declared.Put.{Put}
use Rattle.fib_model.specs.declared.orders.Order.{Order}
use Rattle.fib_model.specs.declared.orders.Outcome.{Outcome}
use Rattle.fib_model.specs.declared.event.Event.{Event}
use Rattle.qsbr.specs.Counters.{Registry}
use Rattle.fib.specs.Replay.{GoesOn}
use Rattle.fib_model.specs.State.{State}
use Rattle.fib_model.specs.Outcomes.{Log, Runs, log_after}
use Rattle.fib_model.specs.Textbook.{by_intervals, initial_by_events}
use Rattle.route_text.specs.declared.routes.Route.{Route}
use Rattle.fib_model.specs.Laws.{history, last_of}
use Rattle.route_text.specs.Files.{AreRoutes, AreAddresses}
use Rattle.route_text.specs.Updates.{AreUpdates}
use Rattle.route_text.specs.Texts.{outcome_lines}
use Rattle.lpm_files.specs.declared.failure.Failure.{Failure}
use Rattle.lpm_files.specs.declared.failure.Failure.TheVariants.{CannotWrite}
use Rattle.lpm_files.specs.Inputs.{Input, Reads, route_file, update_file, address_file, AreRead, EndsAtOne}
use Rattle.lpm_commands.specs.Load.{IsLoaded, EndsLoading, EndsTable, HasTable}
use Rattle.lpm_commands.specs.Lookup.{IsAnswered, EndsAnswering}
use Rattle.fib_model.specs.declared.orders.Order.TheVariants as orders
use Rattle.fib_model.specs.declared.orders.Outcome.TheVariants as outcomes

-- The updates that follow the routes of a table, and what comes of each (DPDK Programmer's Guide,
-- "LPM Library" and "RCU Library"; the words of the update file are this project's).

-- the order that a route asks for
abbrev pub loading_of : Route → Order 24 8
loading_of route = orders.Add route.prefix route.hop

-- on a table of these limits in the state x, the orders come out so, none for want of memory, and
-- leave z: by reader intervals, whatever commands led to x
pub record ComesOut (c : Config) (x : State Registry) (list : List (Order 24 8)) (came : List Outcome)
    (z : State Registry) : Type 0 where
  pub all_orders : length came ≡ length list
  pub had_memory : All (λ outcome. outcome ≢ outcomes.Refused Memory) came
  pub goes_on : GoesOn 24 8 c x list came z

-- on a table of these limits the routes are added one after another, none is refused, and then the
-- orders come out so, none for want of memory; the log has it all, by reader intervals, and leaves
-- this state
pub record IsUpdated (c : Config) (routes : List Route) (list : List (Order 24 8))
    (came : List Outcome) (log : Log 24 8) (state : State (List Event)) : Type 0 where
  pub loaded : List Put
  pub all_routes : length loaded ≡ length routes
  pub all_orders : length came ≡ length list
  pub had_memory : All (λ outcome. outcome ≢ outcomes.Refused Memory) came
  pub logs : log ≡ log_after (log_after [] (map loading_of routes) (map outcomes.Put loaded))
      list came
  pub runs : Runs (by_intervals c) 24 8 c initial_by_events log state

-- the text tells what came of each update, after the routes, and then answers the addresses by the
-- last version of the rules; the files' bytes are known, or not
pub record IsApplyText (c : Config) (routes updates addresses : Option (List ℕ)) (text : List ℕ)
    : Type 0 where
  pub list : List Route
  pub orders : List (Order 24 8)
  pub addrs : List ℕ
  pub came : List Outcome
  pub log : Log 24 8
  pub state : State (List Event)
  pub answers : List ℕ
  pub are_routes : Reads AreRoutes routes list
  pub are_updates : Reads AreUpdates updates orders
  pub are_addrs : Reads AreAddresses addresses addrs
  pub updated : IsUpdated c list orders came log state
  pub answered : IsAnswered c (last_of (history log)) addrs answers
  pub written : text ≡ outcome_lines came ++ answers

-- on a table with these limits in the state x, the updates come out so and leave z, and then the
-- addresses are answered; the text tells both
pub record IsToldAfter (c : Config) (x : State Registry) (orders : List (Order 24 8)) (addrs : List ℕ)
    (z : State Registry) (text : List ℕ) : Type 0 where
  pub came : List Outcome
  pub answers : List ℕ
  pub comes : ComesOut c x orders came z
  pub answered : IsAnswered c z.rules addrs answers
  pub written : text ≡ outcome_lines came ++ answers

-- the routes make a table of these limits, none is refused, and the text tells what came of the
-- updates after them and then answers the addresses
abbrev pub IsToldOver : Config → List Route → List (Order 24 8) → List ℕ → List ℕ → Type 0
IsToldOver c list orders addrs text = (x : State Registry) × ((z : State Registry)
    × IsLoaded c list x × IsToldAfter c x orders addrs z text)

-- telling that ends so: by loading the routes of the file of this path, else by answering
abbrev pub EndsTelling : Config → List ℕ → List Route → Failure → Type 0
EndsTelling c file list failure = EndsLoading c file list failure
    ⊎ (((table : State Registry) × IsLoaded c list table) × EndsAnswering c.workers failure)

-- the files of an apply, of these paths and bytes
abbrev pub apply_files : List ℕ → List ℕ → List ℕ → (List ℕ → Option (List ℕ)) → List Input
apply_files routes updates addresses bytes = route_file routes (bytes routes)
    ∷ update_file updates (bytes updates) ∷ address_file addresses (bytes addresses) ∷ []

-- an apply of the files of these paths, whose bytes these are, ends so: by reading one of them, else
-- by loading the routes, else by answering; or by a write
abbrev pub EndsApply : Config → List ℕ → List ℕ → List ℕ → (List ℕ → Option (List ℕ)) → Failure
    → Type 0
EndsApply c routes updates addresses bytes failure =
    let files = apply_files routes updates addresses bytes in
    EndsAtOne files failure
    ⊎ (AreRead files × EndsTable c routes (bytes routes) failure)
    ⊎ (AreRead files × HasTable c (bytes routes) × EndsAnswering c.workers failure)
    ⊎ (failure ≡ CannotWrite)
