use Rattle.std.proofs.Common.{arith, ◌+◌, ◌^◌, ◌<◌, take, ◌≡◌, refl}
use Rattle.std.proofs.lemmas.Grind.{common_steps}
use Rattle.std.proofs.lemmas.List.{take_all}
use Rattle.std.proofs.lemmas.List.Elements.{All-more}
use Rattle.interleave.proofs.script.are_addrs.Goals as goal

pub loop-addr-preserved : goal.loop-addr-preserved
loop-addr-preserved g c =
    All-more (λ a. a < 2 ^ (g.row.FIRST + g.row.SECOND)) c.args.addrs.now c.loop-addr.addr-index 0 c.loop-addr-test.true c.loop-addr.invariant (grind (arith, common_steps))

pub returns : goal.returns
returns g c =
    let all : take c.loop-addr.addr-index c.args.addrs.now ≡ c.args.addrs.now = take_all _ _ (omega arith) in
    (λ _. rw all at c.loop-addr.invariant, λ _. refl)
