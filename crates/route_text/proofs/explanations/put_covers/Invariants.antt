use Rattle.std.proofs.Common.{◌≡◌, ◌++◌, drop}
use Rattle.route_text.specs.Explanation.{cover_lines}
use Rattle.route_text.proofs.explanations.put_covers.Given as goal

abbrev pub invariant-loop-rule : goal.invariant-loop-rule
invariant-loop-rule l = l.text.items ++ cover_lines (drop l.rule-index l.rules) ≡ l.fn.text.items ++ cover_lines l.rules
