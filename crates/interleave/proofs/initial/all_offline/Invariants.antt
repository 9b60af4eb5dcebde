use Rattle.std.proofs.Common.{◌≡◌, vec_len}
use Rattle.interleave.specs.World.{AreNew}
use Rattle.interleave.proofs.initial.all_offline.Given as goal

abbrev pub invariant-loop : goal.invariant-loop
invariant-loop l = record {
  len : vec_len l.workers ≡ l.counter;
  new : AreNew l.counter l.workers.items;
}
