use Rattle.std.proofs.Common.{rules}
use Rattle.defer_queue.proofs.DeferQueue.len.Goals as goal

pub returns-clause-len : goal.returns-clause-len
returns-clause-len c = search rules
