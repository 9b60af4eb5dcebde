use Rattle.std.proofs.Common.{◌<◌, length, get_or, refl, sym, ap, subst, ◌∙◌, arith}
use Rattle.shared_fib.specs.RunningTable.{steps_of}
use Rattle.bulk.specs.declared.desk.Desk.{Desk}
use Rattle.bulk.specs.Desks.{IsDeskOf, HasMet}
use Rattle.bulk.proofs.Meetings.{met, one_more}
use Rattle.bulk.proofs.running_table.meet_all.Goals as goal

pub loop-number-preserved : goal.loop-number-preserved
loop-number-preserved g c =
    let known = c.loop-number.invariant in
    let i = c.loop-number.number in
    let desks = c.loop-number.desks in
    let d = c.index-desks-number.result in
    let old : Desk = get_or desks i d in
    let new : Desk = record { pass = c.meet.new.self; hops = old.hops } in
    let within : i < length desks = omega arith in
    let desk : IsDeskOf c.args.table.now old = subst (IsDeskOf c.args.table.now) (sym (known.met.rest i d (omega arith)))
    (c.requires.desks i d (omega arith)) in
    let meeting = c.meet.ensures in
    record {
      met = one_more (HasMet c.args.writer.now) i c.args.desks.now desks d new within known.met
          (met c.args.writer.now old new _ meeting.step.2 (meeting.offline desk.offline) refl
          (meeting.all ∙ ap steps_of known.same) c.history_is_sound.ensures c.table_rests.ensures);
      same = meeting.same ∙ known.same;
    }
