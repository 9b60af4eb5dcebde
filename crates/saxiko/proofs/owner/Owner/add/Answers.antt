use Rattle.std.proofs.Common.{rules}
use Rattle.saxiko.proofs.owner.Owner.add.Goals as goal

pub returns-clause-adds : goal.returns-clause-adds
returns-clause-adds c = search rules
