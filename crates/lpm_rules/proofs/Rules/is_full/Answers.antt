use Rattle.std.proofs.Common.{rules}
use Rattle.lpm_rules.proofs.Rules.is_full.Goals as goal

pub returns : goal.returns
returns c = search rules
