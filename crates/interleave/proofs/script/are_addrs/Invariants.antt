use Rattle.std.proofs.Common.{◌+◌, ◌^◌, ◌<◌, All, take}
use Rattle.interleave.proofs.script.are_addrs.Given as goal

abbrev pub invariant-loop-addr : goal.invariant-loop-addr
invariant-loop-addr g l = All (λ a. a < 2 ^ (g.row.FIRST + g.row.SECOND)) (take l.addr-index l.addrs)
