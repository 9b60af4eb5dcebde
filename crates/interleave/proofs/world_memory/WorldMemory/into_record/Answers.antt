use Rattle.std.proofs.Common.{rules}
use Rattle.interleave.proofs.world_memory.WorldMemory.into_record.Goals as goal

pub returns-clause-seen : goal.returns-clause-seen
returns-clause-seen c = search rules
