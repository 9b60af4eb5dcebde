use Rattle.std.proofs.Common.{rules, ◌≡◌, ◌<◌, length, get_or, refl, subst, ap, ◌∙◌, None, arith}
use Rattle.lpm_trace.specs.declared.shown_step.Actor.TheVariants.{Writer as WriterActor, Worker as WorkerActor}
use Rattle.interleave.specs.World.{writer_items, IsWritersTurn}
use Rattle.interleave.specs.View.{WorldView}
use Rattle.interleave.proofs.Items.{item_there}
use Rattle.interleave.proofs.Turns.{shared_more, reach_more, within, some_left, none_left}
use Rattle.interleave.proofs.world_memory.WorldMemory.reach.Goals as goal

pub turn-requires : goal.turn-requires
turn-requires g c =
    let f = g.row.FIRST in
    let s = g.row.SECOND in
    let y = c.loop-self.self in
    let known = c.requires.known in
    let did = c.loop-self.invariant.reaches known.0 known.1 known.2 in
    let left : y.next < length y.schedule = subst (λ (x : WorldView). x.next < length x.schedule) c.self.view_is c.loop-self-test.true in
    let item : get_or y.schedule y.next WriterActor ≡ WorkerActor c.in-Worker.worker =
    subst (λ (x : WorldView). get_or x.schedule x.next WriterActor ≡ WorkerActor c.in-Worker.worker) c.self.view_is c.in-Worker.is in
    (omega arith, (left, (λ other. item_there y.schedule y.next other WriterActor left ∙ item, (known.0, None, did.0, within f s y known.0 None did.0 did.1 did.2 left))))

pub loop-self-preserved : goal.loop-self-preserved
loop-self-preserved g c =
    let y = c.loop-self.self in
    let known = c.loop-self.invariant in
    let left : y.next < length y.schedule = subst (λ (x : WorldView). x.next < length x.schedule) c.self.view_is c.loop-self-test.true in
    record {
      shared = shared_more c.args.self.now y c.turn.new.self known.shared c.turn.ensures.shared;
      reaches = reach_more g.row.FIRST g.row.SECOND c.args.self.now y c.turn.new.self known.reaches left c.turn.ensures.turn;
    }

pub returns-in-Writer-clause-left : goal.returns-in-Writer-clause-left
returns-in-Writer-clause-left g c = λ c' steps did.
    let f = g.row.FIRST in
    let s = g.row.SECOND in
    let y = c.loop-self.self in
    let known = c.loop-self.invariant in
    let left : y.next < length y.schedule = subst (λ (x : WorldView). x.next < length x.schedule) c.self.view_is c.loop-self-test.true in
    let turn : IsWritersTurn y = record { left = left; item = λ other. item_there y.schedule y.next other WriterActor left ∙ subst (λ (x : WorldView). get_or x.schedule x.next WriterActor ≡ WriterActor) c.self.view_is (search rules) } in
    let some = some_left f s y c' steps (known.reaches c' steps did) turn in
    (λ _. subst (λ xs. length steps < writer_items xs) (ap (λ x. x.schedule) known.shared) some, λ _. refl)

pub returns-clause-left : goal.returns-clause-left
returns-clause-left g c = λ c' steps did.
    let f = g.row.FIRST in
    let s = g.row.SECOND in
    let y = c.loop-self.self in
    let known = c.loop-self.invariant in
    let all : y.next ≡ length y.schedule = subst (λ (x : WorldView). x.next ≡ length x.schedule) c.self.view_is (omega (arith, c.loop-self-test.false, c.self.invariant.within)) in
    let none = none_left f s y c' steps (known.reaches c' steps did) all in
    (λ never. cc, λ some. absurd (omega (arith, none, some, ap (λ x. writer_items x.schedule) known.shared)))
