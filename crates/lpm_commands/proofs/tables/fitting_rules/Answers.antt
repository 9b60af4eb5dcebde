use Rattle.std.proofs.Common.{subst, ◌+◌, ◌<◌, ◌≤◌, ◌^◌, length, rules}
use Rattle.std.specs.FinMap.{len}
use Rattle.lpm_rules.specs.RuleMap.{RuleMap}
use Rattle.lpm_commands.proofs.FilledTable.{lasts_for}
use Rattle.lpm_commands.proofs.tables.fitting_rules.Goals as goal

pub returns-clause-tokens : goal.returns-clause-tokens
returns-clause-tokens c =
    let limits = c.args.config in
    let lasts : 0 < length c.args.routes.now → limits.first_token + limits.groups ≤ 2 ^ 62 = search rules in
    λ some. lasts_for c.args.routes.now (limits.first_token + limits.groups ≤ 2 ^ 62) lasts (subst (λ (R : RuleMap). 0 < len R) c.in-Ok.ensures.same some)
