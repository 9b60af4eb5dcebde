use Rattle.std.proofs.Common.{rules}
use Rattle.lpm_commands.proofs.tables.long_routes.Goals as goal

pub returns : goal.returns
returns c = search rules
