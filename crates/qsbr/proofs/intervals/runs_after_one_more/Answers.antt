use Rattle.qsbr.proofs.RunningIntervals.{runs_after_one_more as law}
use Rattle.qsbr.proofs.intervals.runs_after_one_more.Goals as goal

pub returns : goal.returns
returns g c = law _
