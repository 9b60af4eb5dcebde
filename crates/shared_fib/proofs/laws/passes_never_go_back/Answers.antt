use Rattle.shared_fib.proofs.Since.{passes_never_go_back as law}
use Rattle.shared_fib.proofs.laws.passes_never_go_back.Goals as goal

pub returns : goal.returns
returns c = law
