use Rattle.std.proofs.Common.{◌∙◌, ap, List, map}
use Rattle.std.proofs.lemmas.Result.{IfOk-weaker}
use Rattle.lpm_rules.specs.declared.Rule.{Rule}
use Rattle.lpm_rules.specs.RuleMap.{rules_of}
use Rattle.lpm_commands.specs.Load.{rule_of}
use Rattle.lpm_commands.proofs.RuleOrder.{over_same}
use Rattle.lpm_commands.proofs.tables.add_piece.Goals as goal

pub returns-clause-rules : goal.returns-clause-rules
returns-clause-rules c =
    let same = ap (λ (l : List (Rule 24 8)). rules_of l) c.deref.ensures.value ∙ c.in_ok-rules.ensures.same in
    IfOk-weaker c.add_last.result _ _ (λ x put. put ∙ over_same c.args.table.now.table.rules c.deref.result.now (map rule_of c.args.routes.now) same) c.add_last.ensures.rules
