use Rattle.std.proofs.Common.{rules}
use Rattle.shared_fib.proofs.memory.SharedMemoryMemory.bump.Goals as goal

pub bump_token-requires-clause-next : goal.bump_token-requires-clause-next
bump_token-requires-clause-next c = search rules

pub invariant_of-self : goal.invariant_of-self
invariant_of-self c = search rules

pub returns-clause-value : goal.returns-clause-value
returns-clause-value c = search rules
