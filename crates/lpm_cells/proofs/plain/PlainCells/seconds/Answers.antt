use Rattle.std.proofs.Common.{rules}
use Rattle.lpm_cells.proofs.plain.PlainCells.seconds.Goals as goal

pub returns-clause-value : goal.returns-clause-value
returns-clause-value c = search rules
