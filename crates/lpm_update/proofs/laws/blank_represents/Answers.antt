use Rattle.lpm_update.proofs.Promises.{blank as law}
use Rattle.lpm_update.proofs.laws.blank_represents.Goals as goal

pub returns : goal.returns
returns c = law
