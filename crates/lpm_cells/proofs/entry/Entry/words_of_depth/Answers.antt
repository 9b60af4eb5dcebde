use Rattle.std.proofs.Common.{rules}
use Rattle.lpm_cells.proofs.entry.Entry.words_of_depth.Goals as goal

pub returns-clause-greatest : goal.returns-clause-greatest
returns-clause-greatest c = search rules
