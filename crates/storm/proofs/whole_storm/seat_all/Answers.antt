use Rattle.std.proofs.Common.{◌≡◌, length, ℕ, ◌+◌, List, All, ap, subst, sym, ◌∙◌, arith, lit<, slice_get, Some, None, ◌<◌}
use Rattle.std.proofs.lemmas.List.Elements.{All-nil, All-push}
use Rattle.storm.specs.Workers.{AreInSeats, IsReadyFor, number_of}
use Rattle.storm.specs.declared.workers.Worker.{Worker}
use Rattle.bulk.proofs.Meetings.{one_more_seated}
use Rattle.storm.proofs.Meetings.{each_push, stays_unused}
use Rattle.std.proofs.lemmas.Grind.{common_steps}
use Rattle.storm.proofs.whole_storm.seat_all.Goals as goal

pub loop-number-init : goal.loop-number-init
loop-number-init g c = record {
  len = c.in_ok-workers.ensures.len;
  capacity = omega (arith, c.in_ok-workers.ensures.exact);
  own = c.requires.full.0;
  waiting = λ k from below. c.requires.full.1 k below;
  seated = λ k low. absurd (omega (arith, low));
  ready = subst (All (IsReadyFor c.args.table.now c.args.room)) (sym {A = List Worker} c.in_ok-workers.ensures.items)
      (All-nil (IsReadyFor c.args.table.now c.args.room));
  seats = subst AreInSeats (sym {A = List Worker} c.in_ok-workers.ensures.items) (λ k d below. absurd (omega (arith, below)));
}

pub seat-requires : goal.seat-requires
seat-requires g c =
    let known = c.loop-number.invariant in
    (lit< tt, (known.own, known.waiting c.loop-number.number (omega arith) (omega (arith, c.loop-number-test.true, c.requires.count))))

pub loop-number-preserved : goal.loop-number-preserved
loop-number-preserved g c =
    let known = c.loop-number.invariant in
    let i = c.loop-number.number in
    let pushed = c.push_reserved.ensures in
    let at = known.waiting i (omega arith) (omega (arith, c.loop-number-test.true, c.requires.count)) in
    let place : i ≡ length c.loop-number.workers.items = grind (arith, common_steps) in
    record {
      len = pushed.len ∙ ap (λ (n : ℕ). n + 1) known.len;
      capacity = omega (arith, pushed.capacity, known.capacity);
      own = c.seat.ensures.own;
      waiting = λ k from below. rw c.in_ok-seat.ensures.taken (stays_unused c.loop-number.bench i k
          (omega (arith, from)) (known.waiting k (omega (arith, from)) below));
      seated = λ k low. rw c.in_ok-seat.ensures.taken (one_more_seated c.loop-number.bench i (at.0, at.1) known.seated k low);
      ready = subst (All (IsReadyFor c.args.table.now c.args.room)) (sym {A = List Worker} pushed.items)
          (All-push (IsReadyFor c.args.table.now c.args.room) c.loop-number.workers.items c.in_ok-seat.field-0 known.ready c.in_ok-seat.ensures.ready);
      seats = subst AreInSeats (sym {A = List Worker} pushed.items)
          (each_push (λ k w. number_of w ≡ k) c.loop-number.workers.items c.in_ok-seat.field-0 known.seats
          (c.in_ok-seat.ensures.seat ∙ place));
    }

pub returns-clause-others : goal.returns-clause-others
returns-clause-others g c = λ k from below.
    let at = c.loop-number.invariant.waiting k (omega (arith, from)) below in
    (at.0, at.1)

pub returns-clause-seated : goal.returns-clause-seated
returns-clause-seated g c =
    let all : c.loop-number.number ≡ c.args.count = omega (arith, c.loop-number-test.false) in
    subst (λ (n : ℕ). (k : ℕ) → k < n → slice_get c.loop-number.bench k ≡ Some None) all c.loop-number.invariant.seated
