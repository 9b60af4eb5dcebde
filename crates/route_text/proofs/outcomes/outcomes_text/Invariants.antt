use Rattle.std.proofs.Common.{◌≡◌, ◌++◌, drop}
use Rattle.route_text.specs.Texts.{outcome_lines}
use Rattle.route_text.proofs.outcomes.outcomes_text.Given as goal

abbrev pub invariant-loop-outcome : goal.invariant-loop-outcome
invariant-loop-outcome l = l.text.items ++ outcome_lines (drop l.outcome-index l.outcomes) ≡ outcome_lines l.outcomes
