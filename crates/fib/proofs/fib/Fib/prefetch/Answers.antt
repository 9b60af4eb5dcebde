use Rattle.std.proofs.Common.{rules}
use Rattle.fib.proofs.fib.Fib.prefetch.Goals as goal

pub returns : goal.returns
returns g c = search rules
