use Rattle.std.proofs.Common.{rules}
use Rattle.defer_queue.proofs.DeferQueue.take_front.Goals as goal

pub returns : goal.returns
returns c = search rules
