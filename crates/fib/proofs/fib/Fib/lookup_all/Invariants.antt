use Rattle.std.proofs.Common.{◌+◌, take}
use Rattle.lpm_rules.specs.Longest.{AreLongestHops}
use Rattle.fib.proofs.fib.Fib.lookup_all.Given as goal

-- the addresses up to here have their next hops
abbrev pub invariant-loop-addr : goal.invariant-loop-addr
invariant-loop-addr g l = AreLongestHops (g.row.FIRST + g.row.SECOND) l.self.table.rules (take l.addr-index l.addrs) l.hops.items
