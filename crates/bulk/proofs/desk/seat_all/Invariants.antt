use Rattle.std.proofs.Common.{◌≡◌, ℕ, ◌<◌, ◌≤◌, All, map, vec_len}
use Rattle.std.specs.Prelude.{vec_capacity, slice_get, Some, None}
use Rattle.std.specs.List.{range_with_len}
use Rattle.shared_fib.specs.Passes.{IsBenchOf}
use Rattle.bulk.specs.Desks.{IsDeskOf, IsAtBench, worker_of}
use Rattle.bulk.proofs.desk.seat_all.Given as goal

-- the workers so far have their desks, and the passes of the others are at the bench
abbrev pub invariant-loop-worker : goal.invariant-loop-worker
invariant-loop-worker g l = record {
  len : vec_len l.desks ≡ l.worker;
  capacity : vec_capacity l.desks ≡ l.workers;
  own : IsBenchOf l.table l.bench;
  waiting : (k : ℕ) → l.worker ≤ k → k < l.workers → IsAtBench l.bench k;
  seated : (k : ℕ) → k < l.worker → slice_get l.bench k ≡ Some None;
  desks : All (IsDeskOf l.table) l.desks.items;
  numbers : map worker_of l.desks.items ≡ range_with_len 0 l.worker;
}
