use Rattle.std.proofs.Common.{rules}
use Rattle.lpm_cells.proofs.plain.PlainCells.second_words.Goals as goal

pub returns : goal.returns
returns c = search rules
