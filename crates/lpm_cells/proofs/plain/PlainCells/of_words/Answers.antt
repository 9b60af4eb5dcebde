use Rattle.std.proofs.Common.{rules}
use Rattle.lpm_cells.proofs.plain.PlainCells.of_words.Goals as goal

pub invariant_of-result : goal.invariant_of-result
invariant_of-result g c = (c.requires.shape, c.requires.words)

pub returns-clause-seconds : goal.returns-clause-seconds
returns-clause-seconds g c = search rules
