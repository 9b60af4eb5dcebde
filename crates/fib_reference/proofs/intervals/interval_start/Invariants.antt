use Rattle.std.proofs.Common.{reverse, take}
use Rattle.fib_reference.proofs.Events.{IsFound}
use Rattle.fib_reference.proofs.intervals.interval_start.Given as goal

-- what was found in the events so far
abbrev pub invariant-loop-place : goal.invariant-loop-place
invariant-loop-place l = IsFound (reverse (take l.place l.events)) l.w l.since
