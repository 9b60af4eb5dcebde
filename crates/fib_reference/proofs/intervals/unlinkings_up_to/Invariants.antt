use Rattle.std.proofs.Common.{◌≡◌, ◌≤◌, reverse, take}
use Rattle.fib_model.specs.Textbook.{unlinkings_before}
use Rattle.fib_reference.proofs.intervals.unlinkings_up_to.Given as goal

-- the unlinkings among the events so far, which are no more than those
abbrev pub invariant-loop-at : goal.invariant-loop-at
invariant-loop-at l = record {
  counted : l.count ≡ unlinkings_before (reverse (take l.at l.events)) l.place;
  bound : l.count ≤ l.at;
}
