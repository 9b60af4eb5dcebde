use Rattle.std.proofs.Common.{rules}
use Rattle.lpm_groups.proofs.Groups.len.Goals as goal

pub returns-clause-value : goal.returns-clause-value
returns-clause-value c = search rules

pub returns-clause-bound : goal.returns-clause-bound
returns-clause-bound c = search rules
