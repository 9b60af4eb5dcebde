use Rattle.std.proofs.Common.{rules}
use Rattle.lpm_cells.proofs.entry.Entry.hop.Goals as goal

pub returns-in_default : goal.returns-in_default
returns-in_default c = search rules
