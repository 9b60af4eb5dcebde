use Rattle.std.proofs.Common.{rules}
use Rattle.lpm_options.proofs.refusal.Goals as goal

pub returns-in-OutOfMemory : goal.returns-in-OutOfMemory
returns-in-OutOfMemory c = search rules
