use Rattle.std.proofs.Common.{rules}
use Rattle.fib.proofs.fib.Fib.into_parts.Goals as goal

pub returns-clause-sound : goal.returns-clause-sound
returns-clause-sound g c = search rules

pub returns-clause-table : goal.returns-clause-table
returns-clause-table g c = search rules
