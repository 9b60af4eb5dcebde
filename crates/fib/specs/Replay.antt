-- Meaning: lists of commands on a table that was just opened, told without its tokens, counters and
-- words: by reader intervals (DPDK Programmer's Guide, "RCU Library") and by the versions of the
-- rule list.
use Rattle.std.specs.Prelude.{ℕ, ◌≡◌, ◌+◌, List, length}
use Rattle.std.specs.FinMap.{len}
use Rattle.lpm_rules.specs.Longest.{AreLongestHops}
use Rattle.qsbr.specs.Counters.{Registry}
use Rattle.lpm_limits.specs.declared.config.Config.{Config}
use Rattle.fib_model.specs.declared.orders.Order.{Order}
use Rattle.fib_model.specs.declared.orders.Outcome.{Outcome}
use Rattle.fib_model.specs.declared.event.Event.{Event}
use Rattle.fib_model.specs.State.{State}
use Rattle.fib_model.specs.Outcomes.{Log, Runs, log_after, groups_in_use}
use Rattle.fib_model.specs.Counters.{by_counters, initial_by_counters}
use Rattle.fib_model.specs.Textbook.{textbook, by_intervals, initial_by_events}
use Rattle.fib_model.specs.Laws.{history, last_of, Agrees}
use Rattle.fib.specs.declared.replay.Replay.{Replay}

-- a table that some log led to x goes on to z: by reader intervals the commands of that log and
-- then these came out so, and what they lead to agrees with z
abbrev pub GoesOn : (first second : ℕ) → Config → State Registry → List (Order first second)
    → List Outcome → State Registry → Type 0
GoesOn first second c x orders outcomes z =
    (log : Log first second) → Runs by_counters first second c (initial_by_counters c) log x
    → (y : State (List Event))
    × Runs (by_intervals c) first second c initial_by_events (log_after log orders outcomes) y × Agrees c z y

-- a table of these limits that is so answers the addresses and counts like this
pub record IsAsked (first second : ℕ) (c : Config) (z : State Registry) (addrs : List ℕ) (r : Replay)
    : Type 0 where
  pub hops : AreLongestHops (first + second) z.rules addrs r.hops.items
  pub rules : r.rules ≡ len z.rules
  pub versions : r.versions ≡ z.updates_begun
  pub in_use : r.counts.in_use ≡ groups_in_use first second z.rules
  pub limbo : r.counts.limbo ≡ length z.limbo
  pub groups : r.counts.in_use + r.counts.limbo + r.counts.free ≡ c.groups
  pub token : r.token ≡ z.readers.token

-- the commands of the log came out so on a table of these limits, and after the last one the counts
-- are these, and the addresses have these next hops, each of the longest match in the last version
pub record IsReplay (first second : ℕ) (c : Config) (log : Log first second) (addrs : List ℕ)
    (r : Replay) : Type 0 where
  pub state : State (List Event)
  pub runs : Runs (by_intervals c) first second c initial_by_events log state
  pub hops : AreLongestHops (first + second) (last_of (history log)) addrs r.hops.items
  pub rules : r.rules ≡ len (last_of (history log))
  pub versions : r.versions ≡ length (history log)
  pub in_use : r.counts.in_use ≡ groups_in_use first second (last_of (history log))
  pub limbo : r.counts.limbo ≡ length state.limbo
  pub groups : r.counts.in_use + r.counts.limbo + r.counts.free ≡ c.groups
  pub token : r.token ≡ (textbook c).token state.readers
