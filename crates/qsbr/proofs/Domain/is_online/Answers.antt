use Rattle.std.proofs.Common.{rules}
use Rattle.qsbr.proofs.Domain.is_online.Goals as goal

pub returns : goal.returns
returns c = search rules
