use Rattle.std.proofs.Common.{rules}
use Rattle.lpm_cells.proofs.plain.PlainCells.read.Goals as goal

pub returns : goal.returns
returns g c = search rules
