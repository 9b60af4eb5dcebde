use Rattle.std.proofs.Common.{◌≡◌, ◌+◌, ◌*◌, ◌≤◌, All, length, vec_len, vec_capacity}
use Rattle.std.specs.Vec.Iter.{into_iter_items, into_iter_len}
use Rattle.storm.specs.Workers.{EachAt, IsReadyFor, number_of}
use Rattle.storm.specs.Threads.{AreLookups}
use Rattle.storm.proofs.threads.start_workers.Given as goal

abbrev pub invariant-loop-worker : goal.invariant-loop-worker
invariant-loop-worker g l = record {
  rest : All (IsReadyFor l.table (l.rounds * length l.addrs)) (into_iter_items l.worker-iterator);
  count : l.number + into_iter_len l.worker-iterator ≡ vec_len l.fn.workers;
  len : vec_len l.handles ≡ l.number;
  room : vec_len l.fn.workers ≤ vec_capacity l.handles;
  seats : EachAt (λ k w. number_of w ≡ l.number + k) (into_iter_items l.worker-iterator);
  numbers : EachAt (λ k h. h.promise.number ≡ k) l.handles.items;
  started : All (λ h. AreLookups l.table l.addrs l.rounds h.promise) l.handles.items;
}
