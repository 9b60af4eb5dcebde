use Rattle.std.proofs.Common.{rules}
use Rattle.lpm_update.proofs.rewrite.Rewrite.on_words.Goals as goal

pub returns-in-Add : goal.returns-in-Add
returns-in-Add c = search rules

pub returns-in-Delete : goal.returns-in-Delete
returns-in-Delete c = search rules
