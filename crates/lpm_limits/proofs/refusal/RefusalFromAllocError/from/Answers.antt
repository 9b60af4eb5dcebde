use Rattle.std.proofs.Common.{rules}
use Rattle.lpm_limits.proofs.refusal.RefusalFromAllocError.from.Goals as goal

pub returns : goal.returns
returns c = search rules
