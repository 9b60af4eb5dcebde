use Rattle.std.proofs.Common.{◌∙◌, List, ap, subst, arith}
use Rattle.std.proofs.lemmas.Result.{IfOk-weaker, IfErr-weaker}
use Rattle.lpm_rules.specs.RuleMap.{rules_of}
use Rattle.route_text.specs.declared.routes.Route.{Route}
use Rattle.lpm_commands.specs.Load.{EndsLoading, rules_of_routes}
use Rattle.lpm_commands.proofs.FilledTable.{loads_by_rules}
use Rattle.lpm_commands.proofs.Groups.{loaded_as_given, ends_as_given}
use Rattle.lpm_commands.proofs.tables.open_for_lookups.Goals as goal

pub returns-then-len-gt-MOST_SORTED-clause-loads : goal.returns-then-len-gt-MOST_SORTED-clause-loads
returns-then-len-gt-MOST_SORTED-clause-loads c = IfOk-weaker c.open_and_add.result _ _ (λ r made. (made.0, loaded_as_given c.args.config c.args.routes.items _ c.groups_for-groups.result made.0 c.deref.ensures.value c.groups_for-groups.ensures.enough made.1)) c.open_and_add.ensures.loads

pub returns-then-len-gt-MOST_SORTED-clause-failure : goal.returns-then-len-gt-MOST_SORTED-clause-failure
returns-then-len-gt-MOST_SORTED-clause-failure c = IfErr-weaker c.open_and_add.result _ _ (λ e ends. ends_as_given c.args.config c.args.path.now c.args.routes.items _ c.groups_for-groups.result e c.deref.ensures.value c.groups_for-groups.ensures.enough ends) c.open_and_add.ensures.failure

pub returns-in-Ok-Some-clause-loads : goal.returns-in-Ok-Some-clause-loads
returns-in-Ok-Some-clause-loads c =
    let routes = c.args.routes.items in
    let groups = c.groups_for-groups.result in
    let is = c.in-Some.ensures in
    let made = loads_by_rules (record c.args.config { groups = groups }) routes (rules_of c.in-Some.rules.items) (omega arith) (is.same ∙ ap rules_of_routes c.deref-2.ensures.value) is.fits is.tokens in
    (made.0, loaded_as_given c.args.config routes _ groups made.0 c.deref.ensures.value c.groups_for-groups.ensures.enough made.1)

pub returns-in_default-clause-failure : goal.returns-in_default-clause-failure
returns-in_default-clause-failure c =
    let groups = c.groups_for-groups.result in
    let ends = subst (λ (l : List Route). EndsLoading (record c.args.config { groups = groups }) c.args.path.now l c.first_refusal.result) c.deref-in_default.ensures.value c.first_refusal.ensures in
    ends_as_given c.args.config c.args.path.now c.args.routes.items _ groups c.first_refusal.result c.deref.ensures.value c.groups_for-groups.ensures.enough ends
