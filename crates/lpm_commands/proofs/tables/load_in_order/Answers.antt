use Rattle.std.proofs.Common.{◌∙◌, ap, sym, List, ◌++◌, map, take}
use Rattle.std.proofs.lemmas.List.{take-append-drop}
use Rattle.std.specs.FinMap.{empty}
use Rattle.lpm_rules.specs.RuleMap.{RuleMap, with_rules}
use Rattle.route_text.specs.declared.routes.Route.{Route}
use Rattle.lpm_commands.specs.Load.{rule_of, rules_of_routes}
use Rattle.lpm_commands.proofs.RuleOrder.{with_routes-append}
use Rattle.lpm_commands.proofs.tables.load_in_order.Goals as goal

pub returns-clause-rules : goal.returns-clause-rules
returns-clause-rules c =
    let routes = c.args.routes.now in
    let n = c.min.result in
    let first = c.split_at.result.0.now in
    let later = c.split_at.result.1.now in
    c.in-Ok.ensures.rules ∙ (ap (λ (R : RuleMap). with_rules R (map rule_of later)) c.in-Some.ensures.rules
    ∙ (sym (with_routes-append empty first later)
    ∙ ap rules_of_routes (ap (λ (l : List Route). l ++ later) c.split_at.ensures.front
    ∙ (ap (λ (l : List Route). take n routes ++ l) c.split_at.ensures.back ∙ take-append-drop n routes))))
