use Rattle.std.proofs.Common.{rules}
use Rattle.shared_fib.proofs.memory.SharedMemoryMemory.token.Goals as goal

pub returns-clause-value : goal.returns-clause-value
returns-clause-value c = search rules
