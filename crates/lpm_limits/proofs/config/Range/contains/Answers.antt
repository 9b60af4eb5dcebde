use Rattle.std.proofs.Common.{rules}
use Rattle.lpm_limits.proofs.config.Range.contains.Goals as goal

pub returns-then-self-n : goal.returns-then-self-n
returns-then-self-n c = search rules
