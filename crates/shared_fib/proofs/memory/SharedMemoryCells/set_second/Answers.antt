use Rattle.std.proofs.Common.{rules}
use Rattle.shared_fib.proofs.memory.SharedMemoryCells.set_second.Goals as goal

pub store_second-requires-clause-may : goal.store_second-requires-clause-may
store_second-requires-clause-may c = search rules

pub returns-clause-words : goal.returns-clause-words
returns-clause-words c = search rules

pub returns-clause-set : goal.returns-clause-set
returns-clause-set c = search rules
