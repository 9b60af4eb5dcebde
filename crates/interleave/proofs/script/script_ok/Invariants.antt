use Rattle.std.proofs.Common.{◌+◌, ◌^◌, ◌↔◌, drop}
use Rattle.interleave.specs.Scripts.{IsSound, IsSoundFrom}
use Rattle.interleave.proofs.script.script_ok.Given as goal

-- the script is sound where its rest is
abbrev pub invariant-loop-deed : goal.invariant-loop-deed
invariant-loop-deed g l =
    IsSound (2 ^ (g.row.FIRST + g.row.SECOND)) l.deeds ↔ IsSoundFrom (2 ^ (g.row.FIRST + g.row.SECOND)) l.online (drop l.deed-index l.deeds)
