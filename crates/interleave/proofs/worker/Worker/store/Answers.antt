use Rattle.std.proofs.Common.{rules}
use Rattle.interleave.proofs.worker.Worker.store.Goals as goal

pub returns-clause-stored : goal.returns-clause-stored
returns-clause-stored c = search rules
