use Rattle.std.proofs.Common.{rules}
use Rattle.lpm_commands.proofs.answers.bulk_ending.Goals as goal

pub returns-in-Memory : goal.returns-in-Memory
returns-in-Memory c = search rules
