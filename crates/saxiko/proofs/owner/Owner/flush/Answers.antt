use Rattle.std.proofs.Common.{rules}
use Rattle.saxiko.proofs.owner.Owner.flush.Goals as goal

pub returns-clause-flushes : goal.returns-clause-flushes
returns-clause-flushes c = search rules
