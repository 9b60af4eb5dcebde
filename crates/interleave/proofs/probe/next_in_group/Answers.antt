use Rattle.std.proofs.Common.{refl}
use Rattle.interleave.proofs.Lookups.{answered_more, grouped_at}
use Rattle.interleave.proofs.probe.next_in_group.Goals as goal

pub returns-in-InGroup : goal.returns-in-InGroup
returns-in-InGroup c =
    grouped_at c.args.probes.now c.loop-place.place c.in-InGroup.addr c.in-InGroup.group c.in-InGroup.first _ _ c.loop-place-test.true refl c.in-InGroup.is c.loop-place.invariant

pub loop-place-preserved : goal.loop-place-preserved
loop-place-preserved c =
    answered_more c.args.probes.now c.loop-place.place _ _ c.loop-place-test.true refl c.requires c.loop-place.invariant c.in_default.not-InGroup
