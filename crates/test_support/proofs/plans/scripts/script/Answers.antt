use Rattle.std.proofs.Common.{◌+◌, ◌^◌, [], subst}
use Rattle.std.proofs.lemmas.List.{append-nil}
use Rattle.interleave.specs.Scripts.{IsSound}
use Rattle.test_support.proofs.plans.scripts.script.Goals as goal

pub returns-clause-sound : goal.returns-clause-sound
returns-clause-sound g c = subst (IsSound (2 ^ (g.row.FIRST + g.row.SECOND))) (append-nil c.loop.deeds.items) (c.loop.invariant.sound [] tt)
