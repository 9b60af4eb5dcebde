use Rattle.std.proofs.Common.{◌≡◌, ◌+◌, ◌≤◌, All, vec_len, vec_capacity}
use Rattle.std.specs.Vec.Iter.{into_iter_items, into_iter_len}
use Rattle.storm.specs.Workers.{AreInSeats, EachAt, IsOver}
use Rattle.storm.specs.Threads.{AreLookups}
use Rattle.storm.proofs.threads.join_workers.Given as goal

abbrev pub invariant-loop-handle : goal.invariant-loop-handle
invariant-loop-handle g l = record {
  rest : All (λ h. AreLookups l.table l.addrs l.rounds h.promise) (into_iter_items l.handle-iterator);
  count : vec_len l.ended + into_iter_len l.handle-iterator ≡ vec_len l.fn.handles;
  room : vec_len l.ended + into_iter_len l.handle-iterator ≤ vec_capacity l.ended;
  seats : AreInSeats l.ended.items;
  numbers : EachAt (λ k h. h.promise.number ≡ vec_len l.ended + k) (into_iter_items l.handle-iterator);
  ended : All (IsOver l.table l.addrs l.rounds) l.ended.items;
}
