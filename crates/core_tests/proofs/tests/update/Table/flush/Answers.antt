use Rattle.std.proofs.Common.{ap, sym, subst}
use Rattle.std.specs.FinMap as map
use Rattle.lpm_rules.specs.RuleMap.{RuleList}
use Rattle.lpm_update.specs.Represents.{Represents}
use Rattle.core_tests.proofs.tests.update.Table.flush.Goals as goal

pub record-requires-clause-begun : goal.record-requires-clause-begun
record-requires-clause-begun g c = (c.flush-update.ensures.begun c.self.inside.rules.rules c.self.inside.cells c.self.invariant).0

pub invariant_of-self : goal.invariant_of-self
invariant_of-self g c =
    let x = c.self.inside in
    let begun = c.flush-update.ensures.begun x.rules.rules x.cells c.self.invariant in
    subst (λ R. Represents 4 4 R c.record.new.cells) (sym (ap (λ (r : RuleList). r.rules) c.clear-count.ensures.empty))
    (c.record.ensures.represents x.rules.rules map.empty c.self.invariant begun.1)
