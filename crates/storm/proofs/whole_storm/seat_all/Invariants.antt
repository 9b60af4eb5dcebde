use Rattle.std.proofs.Common.{◌≡◌, ℕ, ◌<◌, ◌≤◌, All, vec_len, vec_capacity, slice_get, Some, None}
use Rattle.shared_fib.specs.Passes.{IsBenchOf}
use Rattle.storm.specs.Workers.{AreInSeats, IsReadyFor, IsUnused}
use Rattle.storm.proofs.whole_storm.seat_all.Given as goal

-- the workers so far are seated, and the passes of the others wait at the bench
abbrev pub invariant-loop-number : goal.invariant-loop-number
invariant-loop-number g l = record {
  len : vec_len l.workers ≡ l.number;
  capacity : l.fn.count ≤ vec_capacity l.workers;
  own : IsBenchOf l.table l.bench;
  waiting : (k : ℕ) → l.number ≤ k → k < l.table.initial.workers → IsUnused l.bench k;
  seated : (k : ℕ) → k < l.number → slice_get l.bench k ≡ Some None;
  ready : All (IsReadyFor l.table l.room) l.workers.items;
  seats : AreInSeats l.workers.items;
}
