use Rattle.std.proofs.Common.{arith}
use Rattle.route_text.specs.Texts.{outcome_line, outcome_lines}
use Rattle.route_text.proofs.WrittenLines.{step_on, at_end, next_outcome, no_outcomes}
use Rattle.route_text.proofs.outcomes.outcomes_text.Goals as goal

pub loop-outcome-preserved : goal.loop-outcome-preserved
loop-outcome-preserved c = step_on outcome_line outcome_lines next_outcome no_outcomes c.args.outcomes.now c.loop-outcome.outcome-index c.outcome-item.result c.loop-outcome.text.items _ _ (omega arith) c.outcome-item.is c.in_ok-put_line.ensures c.loop-outcome.invariant

pub returns : goal.returns
returns c = at_end outcome_line outcome_lines next_outcome no_outcomes c.args.outcomes.now c.loop-outcome.outcome-index c.loop-outcome.text.items _ (omega arith) c.loop-outcome.invariant
