use Rattle.std.proofs.Common.{◌≡◌, vec_len}
use Rattle.std.specs.Prelude.{vec_capacity}
use Rattle.shared_fib.proofs.Seats.{AreMade}
use Rattle.shared_fib.proofs.bench.Bench.full.Given as goal

-- the passes of the workers below this one are made, and the writer's seat knows how many
abbrev pub invariant-loop-worker : goal.invariant-loop-worker
invariant-loop-worker g l = record {
  len : vec_len l.passes ≡ l.worker;
  capacity : vec_capacity l.passes ≡ l.workers;
  table : l.seat.table ≡ l.fn.seat.table;
  view : l.seat.view ≡ record l.fn.seat.view { made = l.worker };
  made : AreMade l.fn.seat.table l.fn.seat.view l.worker l.passes.items;
}
