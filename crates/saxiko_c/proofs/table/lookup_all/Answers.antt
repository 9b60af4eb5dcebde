use Rattle.std.proofs.Common.{◌≡◌, inr, length, refl}
use Rattle.fib.specs.Fib.{IsHopOrDefault}
use Rattle.saxiko_c.proofs.Pieces.{all_answered, as_many}
use Rattle.saxiko_c.proofs.table.lookup_all.Goals as goal

pub returns : goal.returns
returns c =
    let addrs = c.args.addrs.now in
    let sizes : length addrs ≡ length c.args.hops.now = search in
    let bulk = c.lookup_bulk in
    let all = as_many bulk.result (length addrs) (length c.args.hops.now) sizes bulk.ensures.count in
    inr (sizes, refl, all_answered (IsHopOrDefault 32 c.args.fib.now.table.rules c.args.default) addrs c.args.hops.now bulk.new.hops bulk.result sizes all bulk.ensures.answers bulk.ensures.rest)
