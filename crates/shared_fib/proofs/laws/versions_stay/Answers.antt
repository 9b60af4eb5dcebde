use Rattle.shared_fib.proofs.Backwards.{versions_stay as law}
use Rattle.shared_fib.proofs.laws.versions_stay.Goals as goal

pub returns : goal.returns
returns c = law
