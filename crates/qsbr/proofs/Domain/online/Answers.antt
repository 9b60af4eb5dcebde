use Rattle.std.proofs.Common.{rules}
use Rattle.qsbr.proofs.Domain.online.Goals as goal

pub returns-clause-stored : goal.returns-clause-stored
returns-clause-stored c = search rules

pub returns-clause-online : goal.returns-clause-online
returns-clause-online c = search rules
