use Rattle.std.proofs.Common.{◌≡◌, [], take, length}
use Rattle.fib_model.specs.Counters.{by_counters}
use Rattle.fib_model.specs.Outcomes.{Runs, log_after}
use Rattle.fib.proofs.fib.Fib.execute_all.Given as goal

-- the commands up to here are done
abbrev pub invariant-loop-index : goal.invariant-loop-index
invariant-loop-index g l = record {
  done : Runs by_counters g.row.FIRST g.row.SECOND l.fn.self.config l.fn.self.table (log_after [] (take l.index l.orders) (take l.index l.outcomes.items)) l.self.table;
  room : length l.outcomes.items ≡ length l.orders;
  config : l.self.config ≡ l.fn.self.config;
}
