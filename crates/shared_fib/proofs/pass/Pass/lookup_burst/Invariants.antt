use Rattle.std.proofs.Common.{ℕ, ◌≡◌, ◌≤◌, ◌-◌, List, Option, map, length, take, drop, true}
use Rattle.shared_fib.specs.RunningTable.{hop_or}
use Rattle.shared_fib.specs.Bursts.{LooksUpBurst}
use Rattle.shared_fib.proofs.pass.Pass.lookup_burst.Given as goal

-- the addresses up to here are answered, and what stands behind their hops is as it was
abbrev pub invariant-loop-burst : goal.invariant-loop-burst
invariant-loop-burst l = record {
  own : l.self.table ≡ l.fn.self.table;
  online : l.self.online ≡ true;
  within : l.burst.count ≤ l.end;
  len : length l.hops ≡ length l.fn.hops;
  rest : drop l.burst.count l.hops ≡ drop l.burst.count l.fn.hops;
  answers : (found : List (Option ℕ))
      × LooksUpBurst (take l.burst.count l.addrs) found l.burst.lo l.burst.hi l.fn.self l.self
      × (take l.burst.count l.hops ≡ map (hop_or l.default) found);
}

abbrev pub decreases-loop-burst : goal.decreases-loop-burst
decreases-loop-burst l = l.end - l.burst.count
