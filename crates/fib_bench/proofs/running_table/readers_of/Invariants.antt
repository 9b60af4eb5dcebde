use Rattle.std.proofs.Common.{◌≡◌, ◌≤◌, length, vec_capacity}
use Rattle.shared_fib.specs.Passes.{IsBenchOf}
use Rattle.fib_bench.proofs.running_table.readers_of.Given as goal

-- the bench is that of the table, and each worker before this one has a reader; there is room for all
abbrev pub invariant-loop-worker : goal.invariant-loop-worker
invariant-loop-worker l = IsBenchOf l.table l.bench × (length l.readers.items ≡ l.worker) × (4 ≤ vec_capacity l.readers)
