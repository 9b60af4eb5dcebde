use Rattle.std.proofs.Common.{sym, ap, ◌∙◌, subst, ◌≡◌}
use Rattle.lpm_update.specs.Represents.{Represents}
use Rattle.lpm_rules.specs.RuleMap.{RuleList}
use Rattle.lpm_update.specs.Laws.{blank_words}
use Rattle.lpm_update.proofs.Promises.{blank}
use Rattle.core_tests.proofs.tests.update.Table.open.Goals as goal

pub invariant_of-result : goal.invariant_of-result
invariant_of-result c =
    let made = c.in_ok-new.ensures in
    let words : c.in_ok-new.field-0 ≡ blank_words 16 16 = ap (λ x. record { firsts = x; seconds = c.in_ok-new.field-0.seconds }) made.firsts ∙ ap (λ x. record { firsts = (blank_words 16 16).firsts; seconds = x }) made.seconds in
    subst (λ R. Represents 4 4 R c.in_ok-new.field-0) (sym (ap (λ (r : RuleList). r.rules) c.new-2.ensures)) (subst (Represents 4 4 _) (sym words) (blank 4 4 16 1).0)
