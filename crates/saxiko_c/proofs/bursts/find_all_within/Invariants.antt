use Rattle.std.proofs.Common.{length, ◌-◌, ◌≡◌, ◌≤◌, [], take, true}
use Rattle.shared_fib.specs.Bursts.{greatest, least}
use Rattle.saxiko_c.specs.RunningTable.{FindsEach}
use Rattle.saxiko_c.proofs.bursts.find_all_within.Given as goal

-- the answers so far, and the versions that they lie between
abbrev pub invariant-loop-at : goal.invariant-loop-at
invariant-loop-at l = record {
  bound : l.at ≤ length l.hops;
  sizes : length l.hops ≡ length l.fn.hops;
  online : l.reader.online ≡ true;
  none : l.at ≡ 0 → (l.lo ≡ least []) × (l.hi ≡ greatest []);
  found : FindsEach l.default (take l.at l.addrs) (take l.at l.hops) (record { lo = l.lo; hi = l.hi }) l.fn.reader l.reader;
}

abbrev pub decreases-loop-at : goal.decreases-loop-at
decreases-loop-at l = length l.initial.hops - l.at
