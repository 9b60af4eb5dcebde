use Rattle.std.proofs.Common.{rules}
use Rattle.shared_fib.proofs.writer.Writer.limits.Goals as goal

pub returns-clause-value : goal.returns-clause-value
returns-clause-value c = search rules
