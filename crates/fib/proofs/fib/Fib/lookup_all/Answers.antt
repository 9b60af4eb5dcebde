use Rattle.std.proofs.Common.{arith}
use Rattle.std.proofs.lemmas.List.{take_more}
use Rattle.lpm_rules.proofs.Longest.{AreLongestHops-append}
use Rattle.fib.proofs.fib.Fib.lookup_all.Goals as goal

pub loop-addr-preserved : goal.loop-addr-preserved
loop-addr-preserved g c =
    rw (take_more c.args.addrs.now c.loop-addr.addr-index 0 (omega arith), c.in_ok-push.ensures.items)
    (AreLongestHops-append _ _ _ _ _ _ c.loop-addr.invariant c.lookup.ensures)
