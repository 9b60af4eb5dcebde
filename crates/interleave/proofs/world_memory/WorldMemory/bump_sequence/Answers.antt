use Rattle.std.proofs.Common.{rules}
use Rattle.interleave.proofs.world_memory.WorldMemory.bump_sequence.Goals as goal

pub returns-clause-left : goal.returns-clause-left
returns-clause-left c = search rules
