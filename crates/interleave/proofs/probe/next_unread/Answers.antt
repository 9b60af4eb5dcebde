use Rattle.std.proofs.Common.{refl}
use Rattle.interleave.proofs.Lookups.{begun_more, unread_at}
use Rattle.interleave.proofs.probe.next_unread.Goals as goal

pub returns-in-Unread : goal.returns-in-Unread
returns-in-Unread c =
    unread_at c.args.probes.now c.loop-place.place c.in-Unread.addr _ _ c.loop-place-test.true refl c.in-Unread.is c.loop-place.invariant

pub loop-place-preserved : goal.loop-place-preserved
loop-place-preserved c =
    let n = c.in_default.not-Unread in
    begun_more c.args.probes.now c.loop-place.place _ _ c.loop-place-test.true refl c.loop-place.invariant n
