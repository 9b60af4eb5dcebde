use Rattle.std.proofs.Common.{rules}
use Rattle.shared_fib.proofs.memory.SharedMemoryMemory.counter_count.Goals as goal

pub returns : goal.returns
returns c = search rules
