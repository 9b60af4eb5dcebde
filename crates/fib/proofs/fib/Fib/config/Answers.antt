use Rattle.std.proofs.Common.{rules}
use Rattle.fib.proofs.fib.Fib.config.Goals as goal

pub returns-clause-value : goal.returns-clause-value
returns-clause-value c = search rules
