use Rattle.std.proofs.Common.{ℕ, ◌<◌}
use Rattle.fib_model.specs.Counters.{by_counters}
use Rattle.fib_bench.proofs.running_table.is_offline.Given as goal

-- the workers before this one are offline
abbrev pub invariant-loop-worker : goal.invariant-loop-worker
invariant-loop-worker l = (v : ℕ) → v < l.worker → ¬ by_counters.is_online l.table.table.readers v
