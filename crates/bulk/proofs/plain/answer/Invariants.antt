use Rattle.std.proofs.Common.{◌≡◌, ◌+◌, length, take, vec_len}
use Rattle.lpm_rules.specs.Longest.{AreLongestHops}
use Rattle.bulk.proofs.plain.answer.Given as goal

-- the room is as it was, and the addresses up to here have their next hops
abbrev pub invariant-loop-i : goal.invariant-loop-i
invariant-loop-i g l = record {
  room : vec_len l.hops ≡ length l.addrs;
  answered : AreLongestHops (g.row.FIRST + g.row.SECOND) l.fib.table.rules (take l.i l.addrs) (take l.i l.hops.items);
}
