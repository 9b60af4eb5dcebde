use Rattle.std.proofs.Common.{rules}
use Rattle.lpm_limits.proofs.config.ConfigDefault.default.Goals as goal

pub returns : goal.returns
returns c = search rules
