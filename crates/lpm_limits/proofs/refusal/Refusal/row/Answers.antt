use Rattle.std.proofs.Common.{rules}
use Rattle.lpm_limits.proofs.refusal.Refusal.row.Goals as goal

pub returns-in-NoSuchWorker-clause-name : goal.returns-in-NoSuchWorker-clause-name
returns-in-NoSuchWorker-clause-name c = search rules

pub returns-in-Taken-clause-number : goal.returns-in-Taken-clause-number
returns-in-Taken-clause-number c = search rules
