use Rattle.std.proofs.Common.{arith, sym, ◌∙◌}
use Rattle.lpm_rules.proofs.LengthMaps.{IsPlace, had, has_one, taken_out, same_list, sound_removed, sound_kept}
use Rattle.lpm_rules.proofs.Rules.remove.Given.{Over}
use Rattle.lpm_rules.proofs.Rules.remove.Goals.{After-index-self-len}
use Rattle.lpm_rules.proofs.Rules.remove.Goals as goal

place : (g : Over) (c : After-index-self-len g)
    → IsPlace g.row.FIRST g.row.SECOND c.self.inside.lengths c.self.inside.count c.self.inside.max c.args.self.now c.args.prefix.now c.bits-bits.result c.len.result
place g c = record { sound = c.self.invariant; view = c.self.view_is; bits = c.bits-bits.ensures.value; len = c.len.ensures.value; bound = c.len.ensures.bound }

pub overflow_sub-self : goal.overflow_sub-self
overflow_sub-self g c =
    let one = has_one (place g (goal.at.overflow_sub-self g c).After-index-self-len) _ c.in-Some.hop (sym c.in-Some.ensures.value) in
    omega (arith, one)

pub invariant_of-self : goal.invariant_of-self
invariant_of-self g c =
    sound_removed (place g (goal.at.invariant_of-self g c).After-index-self-len) _ c.remove.new.self c.in-Some.hop (sym c.in-Some.ensures.value) c.in-Some.ensures.updates.0

pub returns-in-Some-clause-hop : goal.returns-in-Some-clause-hop
returns-in-Some-clause-hop g c = sym (had (place g (goal.at.returns-in-Some-clause-hop g c).After-index-self-len) _) ∙ sym c.in-Some.ensures.value

pub returns-in-Some-clause-ok : goal.returns-in-Some-clause-ok
returns-in-Some-clause-ok g c =
    taken_out (place g (goal.at.returns-in-Some-clause-ok g c).After-index-self-len) _ c.remove.new.self c.in-Some.ensures.updates.0

pub invariant_of-self-in-None : goal.invariant_of-self-in-None
invariant_of-self-in-None g c =
    sound_kept (place g (goal.at.invariant_of-self-in-None g c).After-index-self-len) _ c.remove.new.self c.in-None.ensures.unchanged

pub returns-in-None-clause-hop : goal.returns-in-None-clause-hop
returns-in-None-clause-hop g c = sym (had (place g (goal.at.returns-in-None-clause-hop g c).After-index-self-len) _) ∙ sym c.in-None.ensures.value

pub returns-in-None-clause-err : goal.returns-in-None-clause-err
returns-in-None-clause-err g c =
    same_list (place g (goal.at.returns-in-None-clause-err g c).After-index-self-len) _ c.remove.new.self c.in-None.ensures.unchanged
