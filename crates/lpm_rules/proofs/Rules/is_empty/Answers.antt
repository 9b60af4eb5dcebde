use Rattle.std.proofs.Common.{rules}
use Rattle.lpm_rules.proofs.Rules.is_empty.Goals as goal

pub returns : goal.returns
returns c = search rules
