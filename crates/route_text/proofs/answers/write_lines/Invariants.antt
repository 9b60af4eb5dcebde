use Rattle.std.proofs.Common.{◌≡◌, ◌*◌, ◌≤◌, length, drop}
use Rattle.route_text.specs.Texts.{answer_lines}
use Rattle.route_text.proofs.answers.write_lines.Given as goal

abbrev pub invariant-loop-left : goal.invariant-loop-left
invariant-loop-left l = record {
  within : l.left ≤ length l.addrs;
  place : l.start ≤ length l.block;
  room : 26 * l.left ≤ l.start;
  written : drop l.start l.block ≡ answer_lines (drop l.left l.addrs) (drop l.left l.hops);
}

abbrev pub decreases-loop-left : goal.decreases-loop-left
decreases-loop-left l = l.left
