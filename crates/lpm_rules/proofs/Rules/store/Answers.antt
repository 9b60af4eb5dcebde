use Rattle.std.proofs.Common.{arith, sym, ◌∙◌}
use Rattle.lpm_rules.proofs.LengthMaps.{IsPlace, had, has_room, put_in, same_list, sound_added, sound_replaced, sound_kept}
use Rattle.lpm_rules.proofs.Rules.store.Given.{Over}
use Rattle.lpm_rules.proofs.Rules.store.Goals.{After-index-self-len}
use Rattle.lpm_rules.proofs.Rules.store.Goals as goal

place : (g : Over) (c : After-index-self-len g)
    → IsPlace g.row.FIRST g.row.SECOND c.self.inside.lengths c.self.inside.count c.self.inside.max c.args.self.now c.args.prefix.now c.bits-bits.result c.len.result
place g c = record { sound = c.self.invariant; view = c.self.view_is; bits = c.bits-bits.ensures.value; len = c.len.ensures.value; bound = c.len.ensures.bound }

pub overflow_add-self : goal.overflow_add-self
overflow_add-self g c =
    let at = place g (goal.at.overflow_add-self g c).After-index-self-len in
    let room = has_room at _ c.requires.room (sym c.in-Ok-None.ensures.old ∙ c.in-Ok-None.field-0-is) in
    omega (arith, room)

pub invariant_of-self : goal.invariant_of-self
invariant_of-self g c =
    let at = place g (goal.at.invariant_of-self g c).After-index-self-len in
    sound_added at _ c.insert.new.self c.args.hop c.bits-bits.ensures.network (sym c.in-Ok-None.ensures.old ∙ c.in-Ok-None.field-0-is) c.in-Ok-None.ensures.updates.0

pub returns-in-Ok-None-clause-old : goal.returns-in-Ok-None-clause-old
returns-in-Ok-None-clause-old g c =
    sym c.in-Ok-None.field-0-is ∙ c.in-Ok-None.ensures.old ∙ had (place g (goal.at.returns-in-Ok-None-clause-old g c).After-index-self-len) _

pub returns-in-Ok-None-clause-ok : goal.returns-in-Ok-None-clause-ok
returns-in-Ok-None-clause-ok g c =
    put_in (place g (goal.at.returns-in-Ok-None-clause-ok g c).After-index-self-len) _ c.insert.new.self c.args.hop c.in-Ok-None.ensures.updates.0

pub invariant_of-self-in-Ok-Some : goal.invariant_of-self-in-Ok-Some
invariant_of-self-in-Ok-Some g c =
    let at = place g (goal.at.invariant_of-self-in-Ok-Some g c).After-index-self-len in
    sound_replaced at _ c.insert.new.self c.args.hop c.in-Ok-Some.old c.bits-bits.ensures.network (sym c.in-Ok-Some.ensures.old ∙ c.in-Ok-Some.field-0-is) c.in-Ok-Some.ensures.updates.0

pub returns-in-Ok-Some-clause-old : goal.returns-in-Ok-Some-clause-old
returns-in-Ok-Some-clause-old g c =
    sym c.in-Ok-Some.field-0-is ∙ c.in-Ok-Some.ensures.old ∙ had (place g (goal.at.returns-in-Ok-Some-clause-old g c).After-index-self-len) _

pub returns-in-Ok-Some-clause-ok : goal.returns-in-Ok-Some-clause-ok
returns-in-Ok-Some-clause-ok g c =
    put_in (place g (goal.at.returns-in-Ok-Some-clause-ok g c).After-index-self-len) _ c.insert.new.self c.args.hop c.in-Ok-Some.ensures.updates.0

pub invariant_of-self-in-Err : goal.invariant_of-self-in-Err
invariant_of-self-in-Err g c =
    sound_kept (place g (goal.at.invariant_of-self-in-Err g c).After-index-self-len) _ c.insert.new.self c.in-Err.ensures.err

pub returns-in-Err-clause-absent : goal.returns-in-Err-clause-absent
returns-in-Err-clause-absent g c =
    sym (had (place g (goal.at.returns-in-Err-clause-absent g c).After-index-self-len) _) ∙ c.in-Err.ensures.absent

pub returns-in-Err-clause-err : goal.returns-in-Err-clause-err
returns-in-Err-clause-err g c =
    same_list (place g (goal.at.returns-in-Err-clause-err g c).After-index-self-len) _ c.insert.new.self c.in-Err.ensures.err
