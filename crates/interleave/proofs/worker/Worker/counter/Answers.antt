use Rattle.std.proofs.Common.{rules}
use Rattle.interleave.proofs.worker.Worker.counter.Goals as goal

pub returns : goal.returns
returns c = search rules
