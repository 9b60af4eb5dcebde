use Rattle.std.proofs.Common.{◌≡◌, ◌∙◌, ap, sym, arith}
use Rattle.lpm_rules.specs.declared.Rule.{Rule}
use Rattle.lpm_commands.proofs.RuleOrder.{same_network, replaced}
use Rattle.lpm_commands.proofs.tables.is_replaced.Goals as goal

pub returns-then-after-rules : goal.returns-then-after-rules
returns-then-after-rules c = λ same.
    let next = c.index-rules-after.result in
    let own = c.index-rules-index.result in
    let prefixes : next.prefix ≡ own.prefix =
    ap (λ (r : Rule 24 8). r.prefix) c.index-rules-after.is
    ∙ (same_network _ _ c.eq.result c.eq.ensures same
    ∙ sym (ap (λ (r : Rule 24 8). r.prefix) c.index-rules-index.is)) in
    replaced c.args.rules.now c.args.index own next (omega arith) c.index-rules-index.is c.index-rules-after.is prefixes
