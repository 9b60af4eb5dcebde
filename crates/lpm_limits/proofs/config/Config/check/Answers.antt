use Rattle.std.proofs.Common.{rules}
use Rattle.lpm_limits.proofs.config.Config.check.Goals as goal

pub returns-else-is_whole : goal.returns-else-is_whole
returns-else-is_whole c = search rules
