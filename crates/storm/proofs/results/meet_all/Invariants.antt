use Rattle.std.proofs.Common.{◌≡◌, length}
use Rattle.shared_fib.specs.RunningTable.{steps_of}
use Rattle.bulk.proofs.Meetings.{UpTo}
use Rattle.storm.specs.Workers.{AreInSeats, HasAnswered}
use Rattle.storm.specs.declared.workers.Worker.{Worker}
use Rattle.storm.proofs.results.meet_all.Given as goal

-- the passes so far have met the writer, which is as it was
abbrev pub invariant-loop-number : goal.invariant-loop-number
invariant-loop-number g l = record {
  same : l.writer ≡ l.fn.writer;
  len : length l.workers ≡ length l.fn.workers;
  seats : AreInSeats l.workers;
  met : UpTo (λ (old new : Worker). HasAnswered l.table l.addrs l.rounds (steps_of l.fn.writer) new) l.number l.fn.workers l.workers;
}
