use Rattle.std.proofs.Common.{arith, ap, ◌∙◌, rules}
use Rattle.std.proofs.Math.ListN.{length-set}
use Rattle.std.specs.FinMap as map
use Rattle.lpm_rules.specs.RuleMap.{RuleList}
use Rattle.lpm_rules.proofs.Views.{none_at}
use Rattle.lpm_rules.proofs.LengthMaps.{sound_empty, emptied_more}
use Rattle.lpm_rules.proofs.Rules.clear.Goals as goal

pub loop-length-init : goal.loop-length-init
loop-length-init g c = (c.self.invariant.lengths, λ i d h. absurd (omega (arith, h)))

pub loop-length-preserved : goal.loop-length-preserved
loop-length-preserved g c =
    let long = c.loop-length.invariant.0 in (
      length-set c.loop-length.length-items c.loop-length.length-index c.clear.new.self ∙ long,
      emptied_more c.loop-length.length-items c.loop-length.length-index c.clear.new.self (omega (arith, long)) c.clear.ensures.empty c.loop-length.invariant.1,
    )

pub invariant_of-self : goal.invariant_of-self
invariant_of-self g c =
    let long = c.loop-length.invariant.0 in
    sound_empty g.row.FIRST g.row.SECOND c.loop-length.length-items c.self.invariant.shape long
    (λ i d h. c.loop-length.invariant.1 i d (omega (arith, h, long)))

pub returns-clause-empty : goal.returns-clause-empty
returns-clause-empty g c =
    let long = c.loop-length.invariant.0 in
    ap (λ m. record { rules = m; max = c.self.inside.max }) (none_at c.loop-length.length-items (λ i d h. c.loop-length.invariant.1 i d (omega (arith, h, long))))
    ∙ ap (λ (m : RuleList). record { rules = map.empty; max = m.max }) c.self.view_is

pub returns-clause-count : goal.returns-clause-count
returns-clause-count c = search rules
