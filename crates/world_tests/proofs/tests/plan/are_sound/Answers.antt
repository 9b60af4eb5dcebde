use Rattle.std.proofs.Common.{arith, ◌+◌, ◌^◌, take, ◌≡◌}
use Rattle.std.proofs.lemmas.Grind.{common_steps}
use Rattle.std.proofs.lemmas.List.{take_all}
use Rattle.std.proofs.lemmas.List.Elements.{All-more}
use Rattle.interleave.specs.Scripts.{IsSound}
use Rattle.world_tests.proofs.tests.plan.are_sound.Goals as goal

pub loop-script-preserved : goal.loop-script-preserved
loop-script-preserved g c =
    All-more (λ script. IsSound (2 ^ (g.row.FIRST + g.row.SECOND)) script.items) c.args.scripts.now c.loop-script.script-index c.script-item.result c.loop-script-test.true c.loop-script.invariant (grind (arith, common_steps))

pub returns : goal.returns
returns g c =
    let all : take c.loop-script.script-index c.args.scripts.now ≡ c.args.scripts.now = take_all _ _ (omega arith) in
    λ _. rw all at c.loop-script.invariant
