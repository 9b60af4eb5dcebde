use Rattle.std.proofs.Common.{◌≡◌, ℕ, ◌+◌, ◌<◌, List, All, map, slice_get, Some, None, ap, subst, sym, ◌∙◌, arith}
use Rattle.std.specs.List.{range_with_len}
use Rattle.std.proofs.lemmas.List.Elements.{All-nil, All-push}
use Rattle.bulk.specs.declared.desk.Desk.{Desk}
use Rattle.bulk.specs.Desks.{IsDeskOf, worker_of}
use Rattle.bulk.proofs.Meetings.{stays_at_bench, one_more_seated, one_more_number}
use Rattle.bulk.proofs.desk.seat_all.Goals as goal

pub loop-worker-init : goal.loop-worker-init
loop-worker-init g c = record {
  len = c.in_ok-desks.ensures.len;
  capacity = c.in_ok-desks.ensures.exact;
  own = c.requires.full.0;
  waiting = λ k from below.
      let at = c.requires.full.1 k (omega (arith, below, c.requires.workers)) in
      (at.0, at.1);
  seated = λ k low. absurd (omega (arith, low));
  desks = subst (All (IsDeskOf c.args.table.now)) (sym {A = List Desk} c.in_ok-desks.ensures.items) (All-nil (IsDeskOf c.args.table.now));
  numbers = ap (map worker_of) c.in_ok-desks.ensures.items;
}

pub seat-requires : goal.seat-requires
seat-requires g c =
    let known = c.loop-worker.invariant in
    (omega arith, (known.own, known.waiting c.loop-worker.worker (omega arith) c.loop-worker-test.true))

pub loop-worker-preserved : goal.loop-worker-preserved
loop-worker-preserved g c =
    let known = c.loop-worker.invariant in
    let i = c.loop-worker.worker in
    let pushed = c.push_reserved.ensures in
    record {
      len = pushed.len ∙ ap (λ (n : ℕ). n + 1) known.len;
      capacity = pushed.capacity ∙ known.capacity;
      own = c.seat.ensures.own;
      waiting = λ k from below. rw c.seat.ensures.taken (stays_at_bench c.loop-worker.bench i k
          (omega (arith, from)) (known.waiting k (omega (arith, from)) below));
      seated = λ k low. rw c.seat.ensures.taken (one_more_seated c.loop-worker.bench i
          (known.waiting i (omega arith) c.loop-worker-test.true) known.seated k low);
      desks = subst (All (IsDeskOf c.args.table.now)) (sym {A = List Desk} pushed.items)
          (All-push (IsDeskOf c.args.table.now) c.loop-worker.desks.items c.seat.result known.desks c.seat.ensures.desk);
      numbers = ap (map worker_of) pushed.items
          ∙ one_more_number c.loop-worker.desks.items c.seat.result i known.numbers c.seat.ensures.worker;
    }

pub returns-clause-numbers : goal.returns-clause-numbers
returns-clause-numbers g c =
    let all : c.loop-worker.worker ≡ c.args.workers = omega arith in
    c.loop-worker.invariant.numbers ∙ ap (range_with_len 0) all

pub returns-clause-seated : goal.returns-clause-seated
returns-clause-seated g c =
    let all : c.loop-worker.worker ≡ c.args.workers = omega arith in
    subst (λ (n : ℕ). (k : ℕ) → k < n → slice_get c.loop-worker.bench k ≡ Some None) all c.loop-worker.invariant.seated
