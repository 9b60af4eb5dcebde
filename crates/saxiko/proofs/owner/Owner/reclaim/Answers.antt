use Rattle.std.proofs.Common.{rules}
use Rattle.saxiko.proofs.owner.Owner.reclaim.Goals as goal

pub returns-clause-frees : goal.returns-clause-frees
returns-clause-frees c = search rules
