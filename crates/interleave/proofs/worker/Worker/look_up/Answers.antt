use Rattle.std.proofs.Common.{rules}
use Rattle.interleave.proofs.worker.Worker.look_up.Goals as goal

pub returns-clause-lo : goal.returns-clause-lo
returns-clause-lo c = search rules
