use Rattle.std.proofs.Common.{arith}
use Rattle.route_text.specs.Explanation.{cover_line, cover_lines}
use Rattle.route_text.proofs.WrittenLines.{step_on, at_end}
use Rattle.route_text.proofs.Covers.{next_cover, no_covers}
use Rattle.route_text.proofs.explanations.put_covers.Goals as goal

pub loop-rule-preserved : goal.loop-rule-preserved
loop-rule-preserved c = step_on cover_line cover_lines next_cover no_covers c.args.rules.now c.loop-rule.rule-index c.rule-item.result c.loop-rule.text.items _ _ (omega arith) c.rule-item.is c.in_ok-put_cover.ensures c.loop-rule.invariant

pub returns : goal.returns
returns c = at_end cover_line cover_lines next_cover no_covers c.args.rules.now c.loop-rule.rule-index c.loop-rule.text.items _ (omega arith) c.loop-rule.invariant
