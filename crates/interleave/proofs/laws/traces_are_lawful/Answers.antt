use Rattle.interleave.proofs.Ends.{traces_are_lawful as law}
use Rattle.interleave.proofs.laws.traces_are_lawful.Goals as goal

pub returns : goal.returns
returns c = law
