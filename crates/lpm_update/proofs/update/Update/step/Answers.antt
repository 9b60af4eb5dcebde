use Rattle.std.proofs.Common.{rules}
use Rattle.lpm_update.proofs.update.Update.step.Goals as goal

pub returns-clause-steps : goal.returns-clause-steps
returns-clause-steps g c = search rules
