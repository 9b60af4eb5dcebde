use Rattle.std.proofs.Common.{◌∙◌, ap, refl, inr, List}
use Rattle.std.proofs.lemmas.Result.{IfOk-weaker, IfErr-weaker}
use Rattle.lpm_rules.specs.declared.Rule.{Rule}
use Rattle.lpm_rules.specs.RuleMap.{rules_of}
use Rattle.lpm_commands.proofs.Texts.{for_writer, is_plan}
use Rattle.lpm_commands.proofs.storm_command.text_of_lists.Goals as goal

pub text_of_plan-requires-clause-rules : goal.text_of_plan-requires-clause-rules
text_of_plan-requires-clause-rules g c κs within =
    let rules = c.deref.ensures.value ∙ c.in_ok-rules.ensures in
    ap (λ (l : List (Rule 24 8)). rules_of l) rules

pub text_of_plan-requires-clause-orders : goal.text_of_plan-requires-clause-orders
text_of_plan-requires-clause-orders g c κs within =
    let same = c.deref-2.ensures.value ∙ c.in_ok-for_writer.ensures in
    rw same (for_writer c.args.orders.now)

pub returns-clause-text : goal.returns-clause-text
returns-clause-text g c =
    let rules = c.deref.ensures.value ∙ c.in_ok-rules.ensures in
    let orders = c.deref-2.ensures.value ∙ c.in_ok-for_writer.ensures in
    IfOk-weaker c.text_of_plan.result _ _ (λ v came. (_, is_plan c.args.routes.now c.args.orders.now c.args.addrs.now _ rules orders refl, came)) c.text_of_plan.ensures.text

pub returns-clause-failure : goal.returns-clause-failure
returns-clause-failure g c =
    let rules = c.deref.ensures.value ∙ c.in_ok-rules.ensures in
    let orders = c.deref-2.ensures.value ∙ c.in_ok-for_writer.ensures in
    IfErr-weaker c.text_of_plan.result _ _ (λ e ends. inr (_, is_plan c.args.routes.now c.args.orders.now c.args.addrs.now _ rules orders refl, ends)) c.text_of_plan.ensures.failure
