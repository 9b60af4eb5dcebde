use Rattle.fib_model.proofs.Runs.{counters_tell_intervals as law}
use Rattle.fib_model.proofs.laws.counters_tell_intervals.Goals as goal

pub returns : goal.returns
returns c = law
