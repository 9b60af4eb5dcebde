use Rattle.std.proofs.Common.{rules}
use Rattle.fib.proofs.fib.Fib.get.Goals as goal

pub returns : goal.returns
returns c = search rules
