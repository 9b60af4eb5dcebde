use Rattle.std.proofs.Common.{◌≡◌, ◌<◌, ◌∙◌, arith, length, length-set, subst}
use Rattle.shared_fib.specs.RunningTable.{WriterState, steps_of}
use Rattle.bulk.proofs.Meetings.{one_more}
use Rattle.storm.specs.Workers.{HasAnswered, number_of}
use Rattle.storm.specs.declared.workers.Worker.{Worker}
use Rattle.storm.proofs.Meetings.{each_set}
use Rattle.storm.proofs.results.meet_all.Goals as goal

pub loop-number-preserved : goal.loop-number-preserved
loop-number-preserved g c =
    let was = c.loop-number.invariant in
    let id = c.args.table.now in
    let addrs = c.args.addrs.now in
    let rounds = c.args.rounds in
    let worker = c.meet_worker.new.worker in
    let now = subst (λ (w : WriterState). HasAnswered id addrs rounds (steps_of w) worker) was.same c.meet_worker.ensures.answered in
    let low : c.loop-number.number < length c.loop-number.workers = omega (arith, c.loop-number-test.true, was.len) in
    record {
      same = c.meet_worker.ensures.same ∙ was.same;
      len = length-set c.loop-number.workers c.loop-number.number worker ∙ was.len;
      seats = each_set (λ k w. number_of w ≡ k) c.loop-number.workers c.loop-number.number worker low was.seats
          (c.meet_worker.ensures.seat ∙ was.seats c.loop-number.number c.index-workers-number.result low);
      met = one_more (λ (old new : Worker). HasAnswered id addrs rounds (steps_of c.args.writer.now) new) c.loop-number.number
          c.args.workers.now c.loop-number.workers c.index-workers-number.result worker low was.met now;
    }
