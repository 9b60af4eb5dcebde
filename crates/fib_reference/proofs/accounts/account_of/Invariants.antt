use Rattle.std.proofs.Common.{◌≡◌, [], length, take}
use Rattle.fib_reference.specs.Accounts.{IsSound, state_of}
use Rattle.fib_model.specs.Outcomes.{Runs, log_after}
use Rattle.fib_model.specs.Textbook.{by_intervals, initial_by_events}
use Rattle.fib_reference.proofs.accounts.account_of.Given as goal

-- the commands so far have run
abbrev pub invariant-loop-order : goal.invariant-loop-order
invariant-loop-order g l = record {
  sound : IsSound l.config l.plain.limbo;
  each : length l.outcomes.items ≡ l.order-index;
  runs : Runs (by_intervals l.config) g.row.FIRST g.row.SECOND l.config initial_by_events (log_after [] (take l.order-index l.orders) l.outcomes.items) (state_of l.plain);
}
