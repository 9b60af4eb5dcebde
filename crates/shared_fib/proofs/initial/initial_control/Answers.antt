use Rattle.std.proofs.Common.{rules}
use Rattle.shared_fib.proofs.initial.initial_control.Goals as goal

pub returns : goal.returns
returns g c = search rules
