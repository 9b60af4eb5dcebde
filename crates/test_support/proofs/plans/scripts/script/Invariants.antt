use Rattle.std.proofs.Common.{◌≡◌, ◌+◌, ◌^◌, List, ◌++◌, length}
use Rattle.lpm_trace.specs.declared.deed.Deed.{Deed}
use Rattle.interleave.specs.Scripts.{IsSound, IsSoundFrom}
use Rattle.test_support.proofs.plans.scripts.script.Given as goal

abbrev pub invariant-loop : goal.invariant-loop
invariant-loop g l = record {
  count : length l.deeds.items ≡ l.counter;
  -- a worker that can go on with some deeds can do the deeds so far and then those
  sound : (rest : List Deed) → IsSoundFrom (2 ^ (g.row.FIRST + g.row.SECOND)) l.is_online rest
      → IsSound (2 ^ (g.row.FIRST + g.row.SECOND)) (l.deeds.items ++ rest);
}
