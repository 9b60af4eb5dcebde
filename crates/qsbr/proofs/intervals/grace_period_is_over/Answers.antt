use Rattle.qsbr.proofs.RunningIntervals.{grace_period_is_over as law}
use Rattle.qsbr.proofs.intervals.grace_period_is_over.Goals as goal

pub returns : goal.returns
returns g c = law _
