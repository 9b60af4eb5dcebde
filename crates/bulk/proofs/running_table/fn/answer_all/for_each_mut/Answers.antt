use Rattle.std.proofs.Common.{rules}
use Rattle.bulk.proofs.running_table.fn.answer_all.for_each_mut.Goals as goal

pub returns : goal.returns
returns c = search rules
