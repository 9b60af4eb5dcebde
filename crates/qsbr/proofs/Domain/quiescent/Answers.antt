use Rattle.std.proofs.Common.{rules}
use Rattle.qsbr.proofs.Domain.quiescent.Goals as goal

pub returns-clause-stored : goal.returns-clause-stored
returns-clause-stored c = search rules
