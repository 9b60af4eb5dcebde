use Rattle.std.proofs.Common.{rules}
use Rattle.lpm_writer.proofs.plain_memory.PlainMemoryCells.second.Goals as goal

pub returns-clause-value : goal.returns-clause-value
returns-clause-value c = search rules
