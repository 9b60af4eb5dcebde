use Rattle.std.proofs.Common.{rules}
use Rattle.shared_fib.proofs.memory.SharedMemoryMemory.open_update.Goals as goal

pub begin_update-requires-clause-next : goal.begin_update-requires-clause-next
begin_update-requires-clause-next c = search rules
