use Rattle.shared_fib.proofs.Backwards.{lookups_never_go_back as law}
use Rattle.shared_fib.proofs.laws.lookups_never_go_back.Goals as goal

pub returns : goal.returns
returns c = law
