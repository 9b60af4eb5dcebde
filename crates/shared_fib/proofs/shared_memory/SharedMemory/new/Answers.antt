use Rattle.std.proofs.Common.{rules}
use Rattle.shared_fib.proofs.shared_memory.SharedMemory.new.Goals as goal

pub invariant_of-result : goal.invariant_of-result
invariant_of-result g c = search rules
