use Rattle.std.proofs.Common.{◌≡◌, ap, sym, ◌∙◌, arith}
use Rattle.shared_words.specs.Layout.{InitialData}
use Rattle.shared_fib.proofs.Seats.{full_bench}
use Rattle.shared_fib.proofs.bench.Bench.full.Goals as goal

pub returns-clause-full : goal.returns-clause-full
returns-clause-full g c =
    let seat = c.args.seat.now in
    let v = seat.view in
    let own = c.requires.own in
    let known = c.loop-worker.invariant in
    let same = ap (λ (o : InitialData). o.workers) own.initial_is in
    let all : c.loop-worker.worker ≡ v.initial.workers =
    omega (arith, c.loop-worker-test.false, c.loop-worker.auto.worker-end, own.workers, same) in
    full_bench seat.table v c.loop-worker.passes.items (sym c.loop-worker.passes.ok.0 ∙ (known.len ∙ all))
    (λ k low. known.made k (omega (arith, low, all)))
