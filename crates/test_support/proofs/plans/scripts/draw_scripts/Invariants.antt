use Rattle.std.proofs.Common.{◌≡◌, ◌+◌, ◌^◌, All, length}
use Rattle.interleave.specs.Scripts.{IsSound}
use Rattle.test_support.specs.Plans.{HasDeeds}
use Rattle.test_support.proofs.plans.scripts.draw_scripts.Given as goal

-- there is a sound script, of as many deeds as are wanted, for each worker so far
abbrev pub invariant-loop : goal.invariant-loop
invariant-loop g l = record {
  count : length l.scripts.items ≡ l.counter;
  sound : All (λ script. IsSound (2 ^ (g.row.FIRST + g.row.SECOND)) script.items) l.scripts.items;
  deeds : All (λ script. HasDeeds l.least l.most script.items) l.scripts.items;
}
