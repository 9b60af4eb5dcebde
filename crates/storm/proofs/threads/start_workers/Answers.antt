use Rattle.std.proofs.Common.{◌≡◌, ◌+◌, arith, lit<, All, [], ◌∷◌, rules, sym, subst}
use Rattle.std.proofs.lemmas.List.Elements.{All-append, All-cons}
use Rattle.storm.specs.Threads.{AreLookups}
use Rattle.storm.specs.Workers.{EachAt}
use Rattle.storm.proofs.Meetings.{each_push}
use Rattle.storm.proofs.threads.start_workers.Goals as goal

pub start_worker-requires-after_bounds : goal.start_worker-requires-after_bounds
start_worker-requires-after_bounds g c κs within =
    let was = c.loop-worker.invariant in (
      lit< tt,
      (
        lit< tt,
        (
          let h = was.rest 0 c.in-Some.worker in grind rules,
          (let h = was.seats 0 c.in-Some.worker in grind (rules, arith), c.requires.addrs),
        ),
      ),
    )

pub loop-worker-preserved : goal.loop-worker-preserved
loop-worker-preserved g c =
    let was = c.loop-worker.invariant in
    let id = c.args.table.now in
    let addrs = c.args.addrs.now in
    let rounds = c.args.rounds in
    let number = c.loop-worker.number in
    record {
      rest = λ k d below. let h = was.rest (k + 1) d in grind rules;
      seats = λ k d below.
          let h = was.seats (k + 1) d in
          let next : number + (k + 1) ≡ number + 1 + k = omega arith in
          grind (rules, arith);
      count = search rules;
      len = search rules;
      room = search rules;
      numbers = subst (EachAt (λ k h. h.promise.number ≡ k)) (sym c.push_reserved.ensures.items)
          (each_push (λ k h. h.promise.number ≡ k) c.loop-worker.handles.items c.in-Some-start_worker.handle was.numbers (search rules));
      started = subst (λ xs. All (λ h. AreLookups id addrs rounds h.promise) xs) (sym c.push_reserved.ensures.items)
          (All-append (λ h. AreLookups id addrs rounds h.promise) c.loop-worker.handles.items (c.in-Some-start_worker.handle ∷ []) was.started
          (All-cons (λ h. AreLookups id addrs rounds h.promise) c.in-Some-start_worker.handle [] (search rules) (λ k d below. search rules)));
    }
