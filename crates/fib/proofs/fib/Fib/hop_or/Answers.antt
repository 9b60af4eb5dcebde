use Rattle.std.proofs.Common.{rules}
use Rattle.fib.proofs.fib.Fib.hop_or.Goals as goal

pub returns-in-None : goal.returns-in-None
returns-in-None g c = search rules
