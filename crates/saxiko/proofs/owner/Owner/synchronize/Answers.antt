use Rattle.std.proofs.Common.{rules}
use Rattle.saxiko.proofs.owner.Owner.synchronize.Goals as goal

pub returns-clause-synchronizes : goal.returns-clause-synchronizes
returns-clause-synchronizes c = search rules
