use Rattle.std.proofs.Common.{rules}
use Rattle.lpm_rules.proofs.Rules.cover.Goals as goal

pub returns-in-Some : goal.returns-in-Some
returns-in-Some c = search rules
