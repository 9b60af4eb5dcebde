use Rattle.std.proofs.Common.{rules}
use Rattle.lpm_cells.proofs.entry.Entry.group_of_word.Goals as goal

pub returns : goal.returns
returns c = search rules
