use Rattle.std.proofs.Common.{arith, ◌<◌, ◌∙◌, length}
use Rattle.std.proofs.lemmas.List.{drop-set-lt, length-set, take_more, take_more_set}
use Rattle.std.proofs.lemmas.List.Elements.{AllZip-push}
use Rattle.fib.specs.Fib.{IsHopOrDefault}
use Rattle.fib.proofs.lookups.Fib+24+8.lookup_bulk.Goals as goal

pub loop-i-preserved : goal.loop-i-preserved
loop-i-preserved c =
    let l = c.loop-i in
    let fits : l.i < length l.hops = omega arith in
    let done = AllZip-push (IsHopOrDefault 32 c.args.self.now.table.rules c.args.default) _ _ _ _ l.invariant.answered c.hop_or.ensures in
    record {
      len = length-set l.hops l.i c.hop_or.result ∙ l.invariant.len;
      answered = rw (take_more c.args.addrs.now l.i 0 (omega arith), take_more_set l.hops l.i c.hop_or.result fits) done;
      rest = drop-set-lt c.min-count.result l.hops l.i c.hop_or.result (omega arith) ∙ l.invariant.rest;
    }
