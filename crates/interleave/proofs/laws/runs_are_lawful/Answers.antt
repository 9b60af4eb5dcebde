use Rattle.interleave.proofs.Ends.{runs_are_lawful as law}
use Rattle.interleave.proofs.laws.runs_are_lawful.Goals as goal

pub returns : goal.returns
returns c = law
