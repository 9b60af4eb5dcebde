use Rattle.std.proofs.Common.{rules}
use Rattle.lpm_cells.proofs.entry.Entry.hop_of_last_word.Goals as goal

pub returns-then-word-eq0 : goal.returns-then-word-eq0
returns-then-word-eq0 c = search rules
