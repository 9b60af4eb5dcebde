use Rattle.std.proofs.Common.{ap, sym, subst, refl}
use Rattle.std.specs.Prelude.{IsSome}
use Rattle.std.specs.FinMap.{remove}
use Rattle.lpm_rules.specs.RuleMap.{RuleList}
use Rattle.lpm_update.specs.Represents.{Represents, LastFits}
use Rattle.core_tests.proofs.tests.update.Table.delete.Goals as goal

pub record-requires-clause-begun : goal.record-requires-clause-begun
record-requires-clause-begun g c =
    let x = c.self.inside in
    let p = c.expect-prefix.result in
    let last = subst (λ R. LastFits 4 4 R p c.is_last-last.result) (ap (λ (r : RuleList). r.rules) c.in-Ok.ensures.ok) c.is_last-last.ensures in
    (c.delete-update.ensures.begun x.rules.rules x.cells c.self.invariant (subst IsSome (sym c.in-Ok.ensures.hop) refl) c.cover-cover.ensures last).0

pub invariant_of-self : goal.invariant_of-self
invariant_of-self g c =
    let x = c.self.inside in
    let p = c.expect-prefix.result in
    let gone = ap (λ (r : RuleList). r.rules) c.in-Ok.ensures.ok in
    let last = subst (λ R. LastFits 4 4 R p c.is_last-last.result) gone c.is_last-last.ensures in
    let begun = c.delete-update.ensures.begun x.rules.rules x.cells c.self.invariant (subst IsSome (sym c.in-Ok.ensures.hop) refl) c.cover-cover.ensures last in
    subst (λ R. Represents 4 4 R c.record.new.cells) (sym gone) (c.record.ensures.represents x.rules.rules (remove x.rules.rules p) c.self.invariant begun.1)
