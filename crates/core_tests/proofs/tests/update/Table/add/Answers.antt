use Rattle.std.proofs.Common.{ap, sym, subst}
use Rattle.std.specs.FinMap.{insert}
use Rattle.lpm_rules.specs.RuleMap.{RuleList}
use Rattle.lpm_update.specs.Represents.{Represents}
use Rattle.core_tests.proofs.tests.update.Table.add.Goals as goal

pub record-requires-clause-begun : goal.record-requires-clause-begun
record-requires-clause-begun g c =
    let x = c.self.inside in
    (c.add-update.ensures.begun x.rules.rules x.cells c.self.invariant (c.group_for-group.ensures.fits x.rules.rules c.self.invariant)).0

pub invariant_of-self : goal.invariant_of-self
invariant_of-self g c =
    let x = c.self.inside in
    let begun = c.add-update.ensures.begun x.rules.rules x.cells c.self.invariant (c.group_for-group.ensures.fits x.rules.rules c.self.invariant) in
    subst (λ R. Represents 4 4 R c.record.new.cells) (sym (ap (λ (r : RuleList). r.rules) c.in-Ok.ensures.ok))
    (c.record.ensures.represents x.rules.rules (insert x.rules.rules c.expect-prefix.result c.expect-hop.result) c.self.invariant begun.1)
