use Rattle.std.proofs.Common.{rules}
use Rattle.fib.proofs.fib.Fib.token.Goals as goal

pub returns-clause-value : goal.returns-clause-value
returns-clause-value c = search rules

pub returns-clause-within : goal.returns-clause-within
returns-clause-within c = search rules
