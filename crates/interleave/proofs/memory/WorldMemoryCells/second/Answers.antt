use Rattle.std.proofs.Common.{rules}
use Rattle.interleave.proofs.memory.WorldMemoryCells.second.Goals as goal

pub returns-clause-value : goal.returns-clause-value
returns-clause-value c = search rules
