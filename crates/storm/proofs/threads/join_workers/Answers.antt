use Rattle.std.proofs.Common.{◌≡◌, ◌+◌, ◌∙◌, arith, ℕ, All, List, [], ◌∷◌, rules, sym, subst}
use Rattle.std.proofs.lemmas.List.Elements.{All-append, All-cons}
use Rattle.shared_fib.specs.RunningTable.{Identity}
use Rattle.storm.specs.Workers.{IsOver}
use Rattle.storm.specs.Threads.{AreLookups}
use Rattle.storm.specs.declared.workers.Worker.{Worker}
use Rattle.storm.specs.Workers.{AreInSeats, number_of}
use Rattle.storm.proofs.Meetings.{each_push}
use Rattle.storm.proofs.threads.join_workers.Goals as goal

pub loop-handle-preserved : goal.loop-handle-preserved
loop-handle-preserved g c =
    let was = c.loop-handle.invariant in
    let over = IsOver c.args.table.now c.args.addrs.now c.args.rounds in
    let next : AreLookups c.args.table.now c.args.addrs.now c.args.rounds c.in-Some.handle.promise =
    let h = was.rest 0 c.in-Some.handle in grind rules in
    let at_table = subst (λ (i : Identity). IsOver i c.in-Some.handle.promise.addrs.now c.in-Some.handle.promise.rounds c.join.result)
    next.table c.join.ensures.0 in
    let at_addrs = subst (λ (xs : List ℕ). IsOver c.args.table.now xs c.in-Some.handle.promise.rounds c.join.result)
    next.list at_table in
    let this : over c.join.result = subst (λ (n : ℕ). IsOver c.args.table.now c.args.addrs.now n c.join.result) next.times at_addrs in
    let seat = c.join.ensures.1 in
    record {
      rest = λ k d below. let h = was.rest (k + 1) d in grind rules;
      count = search rules;
      room = search rules;
      seats = subst AreInSeats (sym c.push_reserved.ensures.items)
          (each_push (λ k w. number_of w ≡ k) c.loop-handle.ended.items c.join.result was.seats
          (seat ∙ (let h = was.numbers 0 c.in-Some.handle in grind (rules, arith))));
      numbers = λ k d below. let h = was.numbers (k + 1) d in grind (rules, arith);
      ended = subst (λ (xs : List Worker). All over xs) (sym c.push_reserved.ensures.items)
          (All-append over c.loop-handle.ended.items (c.join.result ∷ []) was.ended (All-cons over c.join.result [] this (λ k d below. search rules)));
    }
