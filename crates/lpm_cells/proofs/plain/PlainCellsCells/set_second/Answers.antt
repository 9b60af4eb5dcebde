use Rattle.std.proofs.Common.{arith, ◌+◌, ◌^◌, ◌<◌, rules}
use Rattle.lpm_cells.proofs.ReadBack.{word_below}
use Rattle.lpm_cells.proofs.plain.PlainCellsCells.set_second.Goals as goal

pub overflow_cast-word : goal.overflow_cast-word
overflow_cast-word g c =
    let below : c.args.word < 2 ^ 32 = word_below (g.row.FIRST + g.row.SECOND) c.args.word c.self.invariant.0.2 c.requires.allowed.0 in
    omega arith

pub invariant_of-self : goal.invariant_of-self
invariant_of-self g c = search rules

pub returns-clause-words : goal.returns-clause-words
returns-clause-words g c = search rules

pub returns-clause-set : goal.returns-clause-set
returns-clause-set g c = search rules
