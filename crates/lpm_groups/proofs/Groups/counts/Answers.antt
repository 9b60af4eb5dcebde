use Rattle.std.proofs.Common.{arith, rules}
use Rattle.lpm_groups.proofs.Marks.{counts-total}
use Rattle.lpm_groups.proofs.Groups.counts.Goals as goal

pub overflow_sub-result-2 : goal.overflow_sub-result-2
overflow_sub-result-2 c = omega (arith, counts-total c.self.inside.states.items, c.len.ensures)

pub returns-clause-free : goal.returns-clause-free
returns-clause-free c =
    rw (← c.self.view_is) (omega (arith, counts-total c.self.inside.states.items, c.len.ensures))

pub returns-clause-all : goal.returns-clause-all
returns-clause-all c =
    rw (← c.self.view_is) (omega (arith, counts-total c.self.inside.states.items, c.len.ensures))

pub returns-clause-in_use : goal.returns-clause-in_use
returns-clause-in_use c = search rules

pub returns-clause-limbo : goal.returns-clause-limbo
returns-clause-limbo c = search rules
