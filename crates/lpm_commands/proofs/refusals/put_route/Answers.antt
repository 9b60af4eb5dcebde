use Rattle.std.proofs.Common.{◌≤◌, ◌∙◌, ap, sym, subst, arith}
use Rattle.std.specs.FinMap.{len}
use Rattle.lpm_rules.specs.RuleMap.{RuleList}
use Rattle.fib_model.specs.Outcomes.{groups_in_use}
use Rattle.lpm_commands.proofs.FilledTable.{put_fits, put_groups}
use Rattle.lpm_commands.proofs.Groups.{as_cond}
use Rattle.lpm_commands.proofs.refusals.put_route.Goals as goal

pub returns-clause-most : goal.returns-clause-most
returns-clause-most c =
    subst (λ (l : RuleList). len l.rules ≤ l.max) (sym c.in_ok-done.ensures.ok)
    (put_fits c.args.rules.now c.args.route.now.prefix c.args.route.now.hop c.requires.most (λ lacks. let never = c.in_ok-done.ensures.full.1 lacks in absurd cc))

pub returns-clause-in_use : goal.returns-clause-in_use
returns-clause-in_use c =
    let same = ap (λ (l : RuleList). groups_in_use 24 8 l.rules) c.in_ok-done.ensures.ok in
    let one = put_groups c.args.rules.now.rules c.args.route.now.prefix c.args.route.now.hop c.brings_group.result c.brings_group.ensures in
    let byte = c.from-more.ensures ∙ as_cond c.brings_group.result in
    let used = c.requires.in_use in
    omega (arith, same, one, byte, used)
