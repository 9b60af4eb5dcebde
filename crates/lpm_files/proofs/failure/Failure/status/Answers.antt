use Rattle.std.proofs.Common.{rules}
use Rattle.lpm_files.proofs.failure.Failure.status.Goals as goal

pub returns-in-Bad : goal.returns-in-Bad
returns-in-Bad c = search rules
