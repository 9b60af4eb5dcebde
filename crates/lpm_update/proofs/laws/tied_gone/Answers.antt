use Rattle.lpm_update.proofs.Promises.{tied_gone as law}
use Rattle.lpm_update.proofs.laws.tied_gone.Goals as goal

pub returns : goal.returns
returns c = law
