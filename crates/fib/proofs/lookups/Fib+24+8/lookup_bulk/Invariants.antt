use Rattle.std.proofs.Common.{◌≡◌, length, take, drop}
use Rattle.std.specs.List.{AllZip}
use Rattle.fib.specs.Fib.{IsHopOrDefault}
use Rattle.fib.proofs.lookups.Fib+24+8.lookup_bulk.Given as goal

-- the addresses up to here have their next hops, and what stands behind all is as it was
abbrev pub invariant-loop-i : goal.invariant-loop-i
invariant-loop-i l = record {
  len : length l.hops ≡ length l.fn.hops;
  answered : AllZip (IsHopOrDefault 32 l.self.table.rules l.default) (take l.i l.addrs) (take l.i l.hops);
  rest : drop l.count l.hops ≡ drop l.count l.fn.hops;
}
