use Rattle.std.proofs.Common.{sym, subst, ◌+◌, ◌<◌, ◌≤◌, ◌^◌, List}
use Rattle.std.specs.FinMap.{len}
use Rattle.lpm_rules.specs.declared.Rule.{Rule}
use Rattle.lpm_rules.specs.RuleMap.{rules_of}
use Rattle.lpm_commands.proofs.FilledTable.{opened_filled}
use Rattle.lpm_commands.proofs.tables.open_with.Goals as goal

pub returns-clause-filled : goal.returns-clause-filled
returns-clause-filled c =
    let limits = c.args.config in
    let is = c.in-Ok.ensures in
    opened_filled limits (rules_of c.deref.result.now) c.in-Ok.table is.opened is.suffice
    (subst (λ (l : List (Rule 24 8)). 0 < len (rules_of l) → limits.first_token + limits.groups ≤ 2 ^ 62) (sym c.deref.ensures.value) c.in-Some.ensures.tokens)
