use Rattle.std.proofs.Common.{rules}
use Rattle.interleave.proofs.worker.Worker.new.Goals as goal

pub returns : goal.returns
returns c = search rules
