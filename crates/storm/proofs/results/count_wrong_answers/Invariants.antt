use Rattle.std.proofs.Common.{take, drop}
use Rattle.audit.specs.Wrong.{AreWrong, version_of}
use Rattle.storm.specs.Workers.{answers_of_workers}
use Rattle.storm.proofs.results.count_wrong_answers.Given as goal

abbrev pub invariant-loop-worker : goal.invariant-loop-worker
invariant-loop-worker g l = AreWrong (version_of l.history l.start) (drop l.start l.history) (answers_of_workers (take l.worker-index l.workers)) l.wrong
