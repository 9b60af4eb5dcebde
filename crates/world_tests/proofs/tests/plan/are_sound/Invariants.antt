use Rattle.std.proofs.Common.{◌+◌, ◌^◌, All, take}
use Rattle.interleave.specs.Scripts.{IsSound}
use Rattle.world_tests.proofs.tests.plan.are_sound.Given as goal

-- the scripts so far are sound
abbrev pub invariant-loop-script : goal.invariant-loop-script
invariant-loop-script g l = All (λ script. IsSound (2 ^ (g.row.FIRST + g.row.SECOND)) script.items) (take l.script-index l.scripts)
