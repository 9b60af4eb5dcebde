use Rattle.std.proofs.Common.{rules}
use Rattle.saxiko.proofs.owner.Owner.delete.Goals as goal

pub returns-clause-deletes : goal.returns-clause-deletes
returns-clause-deletes c = search rules
