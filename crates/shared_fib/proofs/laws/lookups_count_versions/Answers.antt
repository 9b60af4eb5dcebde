use Rattle.shared_fib.proofs.Backwards.{lookups_count_versions as law}
use Rattle.shared_fib.proofs.laws.lookups_count_versions.Goals as goal

pub returns : goal.returns
returns c = law
