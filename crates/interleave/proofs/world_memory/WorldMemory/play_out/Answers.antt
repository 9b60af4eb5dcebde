use Rattle.std.proofs.Common.{rules, ◌≡◌, ◌+◌, ◌<◌, length, get_or, refl, ap, sym, subst, ◌∙◌, Some, arith, add-one}
use Rattle.lpm_trace.specs.declared.shown_step.Actor.TheVariants.{Writer as WriterActor, Worker as WorkerActor}
use Rattle.interleave.specs.View.{WorldView}
use Rattle.interleave.specs.World.{IsWritersTurn, StaysShared}
use Rattle.interleave.proofs.Turns.{view_in, PlaysOn, shared_more, within, plays_start, plays_turn, plays_pass, plays_end}
use Rattle.interleave.proofs.Items.{item_there}
use Rattle.interleave.proofs.world_memory.WorldMemory.play_out.Goals as goal

pub loop-self-init : goal.loop-self-init
loop-self-init g c = record {
  shared = refl;
  plays = plays_start g.row.FIRST g.row.SECOND c.args.self.now;
}

pub turn-requires : goal.turn-requires
turn-requires g c =
    let f = g.row.FIRST in
    let s = g.row.SECOND in
    let y = c.loop-self.self in
    let known = c.requires.known in
    let now = c.loop-self.invariant.plays known.0 known.1 known.2 in
    let left : y.next < length y.schedule = subst (λ (x : WorldView). x.next < length x.schedule) c.self.view_is c.loop-self-test.true in
    let item : get_or y.schedule y.next WriterActor ≡ WorkerActor c.in-Worker.worker =
    subst (λ (x : WorldView). get_or x.schedule x.next WriterActor ≡ WorkerActor c.in-Worker.worker) c.self.view_is c.in-Worker.is in
    (omega arith, (left, (λ other. item_there y.schedule y.next other WriterActor left ∙ item, (known.0, Some known.1, now.0, within f s y known.0 (Some known.1) now.0 now.1 now.2 left))))

pub loop-self-preserved : goal.loop-self-preserved
loop-self-preserved g c =
    let y = c.loop-self.self in
    let known = c.loop-self.invariant in
    let left : y.next < length y.schedule = subst (λ (x : WorldView). x.next < length x.schedule) c.self.view_is c.loop-self-test.true in
    record {
      shared = shared_more c.args.self.now y c.turn.new.self known.shared c.turn.ensures.shared;
      plays = plays_turn g.row.FIRST g.row.SECOND c.args.self.now y c.turn.new.self known.plays left c.turn.ensures.turn;
    }

pub loop-self-preserved-in-Writer : goal.loop-self-preserved-in-Writer
loop-self-preserved-in-Writer g c =
    let f = g.row.FIRST in
    let s = g.row.SECOND in
    let y = c.loop-self.self in
    let v : WorldView = view_in f s c.self.inside in
    let known = c.loop-self.invariant in
    let is : v ≡ y = c.self.view_is in
    let item : get_or v.schedule v.next WriterActor ≡ WriterActor = search rules in
    let turn : IsWritersTurn v = record { left = c.loop-self-test.true; item = λ other. item_there v.schedule v.next other WriterActor c.loop-self-test.true ∙ item } in
    let shared : StaysShared c.args.self.now v = subst (StaysShared c.args.self.now) (sym is) known.shared in
    record {
      shared = ap (λ (w : WorldView). record w { next = v.next + 1 }) shared;
      plays = plays_pass f s c.args.self.now v (v.next + 1) (add-one v.next) (subst (PlaysOn f s c.args.self.now) (sym is) known.plays) turn;
    }

pub returns-clause-played : goal.returns-clause-played
returns-clause-played g c =
    let y = c.loop-self.self in
    plays_end g.row.FIRST g.row.SECOND c.args.self.now y c.loop-self.invariant.plays
    (subst (λ (x : WorldView). x.next ≡ length x.schedule) c.self.view_is (omega (arith, c.loop-self-test.false, c.self.invariant.within)))
