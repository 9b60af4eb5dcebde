use Rattle.std.proofs.Common.{rules}
use Rattle.shared_fib.proofs.writer.Writer.rules.Goals as goal

pub returns : goal.returns
returns c = search rules
