-- This layer's own: what the plain program keeps, and what it answers (this project's).
use Rattle.std.specs.Prelude.{ℕ, ◌≡◌, ◌-◌, List, [], length, reverse}
use Rattle.std.specs.FinMap.{len}
use Rattle.lpm_rules.specs.RuleMap.{RuleMap}
use Rattle.lpm_limits.specs.declared.config.Config.{Config}
use Rattle.fib_model.specs.declared.orders.Order.{Order}
use Rattle.fib_model.specs.declared.event.Event.{Event}
use Rattle.fib_reference.specs.declared.plain.Account.{Account}
use Rattle.fib_reference.specs.declared.plain.Plain.{Plain}
use Rattle.fib_reference.specs.declared.limbo.PlainLimbo.{PlainLimbo}
use Rattle.qsbr.specs.Intervals.{IsTidy}
use Rattle.fib_model.specs.Textbook.{by_reports, textbook, by_intervals, initial_by_events}
use Rattle.fib_model.specs.State.{State}
use Rattle.fib_model.specs.Outcomes.{Runs, log_after, groups_in_use}

-- the events, the newest first
abbrev pub events_of : PlainLimbo → List Event
events_of w = reverse w.events.items

-- workers that take turns made these reports
abbrev pub IsSound : Config → PlainLimbo → Type 0
IsSound c w = IsTidy by_reports c.workers (events_of w)

-- the state with these rules, after so many updates
abbrev pub state_with : RuleMap → ℕ → PlainLimbo → State (List Event)
state_with rules updates_begun w = record {
  rules = rules;
  readers = events_of w;
  limbo = w.places.items;
  updates_begun = updates_begun;
}

abbrev pub state_of : {first second : ℕ} → Plain first second → State (List Event)
state_of p = state_with p.rules.rules p.updates_begun p.limbo

-- what a run of these commands has come to: the outcome of each, and the counts at its end
pub record IsAccount (first second : ℕ) (c : Config) (orders : List (Order first second))
    (a : Account) : Type 0 where
  pub state : State (List Event)
  pub runs : Runs (by_intervals c) first second c initial_by_events
      (log_after [] orders a.outcomes.items) state
  pub each : length a.outcomes.items ≡ length orders
  pub rules : a.rules ≡ len state.rules
  pub versions : a.versions ≡ state.updates_begun
  pub in_use : a.counts.in_use ≡ groups_in_use first second state.rules
  pub limbo : a.counts.limbo ≡ length state.limbo
  pub free : a.counts.free ≡ c.groups - groups_in_use first second state.rules - length state.limbo
  pub token : a.token ≡ (textbook c).token state.readers
