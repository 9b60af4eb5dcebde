use Rattle.std.proofs.Common.{rules}
use Rattle.lpm_commands.proofs.report_command.report_of.Goals as goal

pub returns : goal.returns
returns c = search rules
