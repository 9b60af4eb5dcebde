use Rattle.lpm_update.proofs.Promises.{tied_taken as law}
use Rattle.lpm_update.proofs.laws.tied_taken.Goals as goal

pub returns : goal.returns
returns c = law
