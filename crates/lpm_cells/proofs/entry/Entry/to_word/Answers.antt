use Rattle.std.proofs.Common.{rules}
use Rattle.lpm_cells.proofs.entry.Entry.to_word.Goals as goal

pub returns-in-Group-clause-value : goal.returns-in-Group-clause-value
returns-in-Group-clause-value c = search rules
