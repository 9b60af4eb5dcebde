use Rattle.std.proofs.Common.{◌<◌, length, arith}
use Rattle.std.proofs.lemmas.List.{take_more, take_more_set}
use Rattle.lpm_rules.proofs.Longest.{AreLongestHops-append}
use Rattle.bulk.proofs.plain.answer.Goals as goal

pub loop-i-preserved : goal.loop-i-preserved
loop-i-preserved g c =
    let fits : c.loop-i.i < length c.loop-i.hops.items = omega arith in
    let done = AreLongestHops-append _ _ _ _ _ _ c.loop-i.invariant.answered c.lookup.ensures in
    record {
      room = c.loop-i.invariant.room;
      answered = rw (take_more c.args.piece.now.addrs.now c.loop-i.i 0 (omega arith), take_more_set c.loop-i.hops.items c.loop-i.i c.lookup.result fits) done;
    }
