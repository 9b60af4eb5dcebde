use Rattle.std.proofs.Common.{rules}
use Rattle.shared_fib.proofs.memory.SharedMemoryMemory.close_update.Goals as goal

pub end_update-requires-clause-next : goal.end_update-requires-clause-next
end_update-requires-clause-next c = search rules
