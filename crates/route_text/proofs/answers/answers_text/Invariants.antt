use Rattle.std.proofs.Common.{◌≡◌, ◌≤◌, ◌-◌, ◌++◌, length, drop}
use Rattle.route_text.specs.Texts.{answer_lines}
use Rattle.route_text.proofs.answers.answers_text.Given as goal

abbrev pub invariant-loop-done : goal.invariant-loop-done
invariant-loop-done l = record {
  within : l.done ≤ length l.addrs;
  text : l.text.items ++ answer_lines (drop l.done l.addrs) (drop l.done l.hops) ≡ answer_lines l.addrs l.hops;
}

abbrev pub decreases-loop-done : goal.decreases-loop-done
decreases-loop-done l = length l.addrs - l.done
