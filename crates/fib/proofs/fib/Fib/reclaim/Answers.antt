use Rattle.fib.proofs.Sound.{frees}
use Rattle.fib.proofs.fib.Fib.reclaim.Goals as goal

pub invariant_of-self : goal.invariant_of-self
invariant_of-self g c =
    let x = c.self.inside in
    (frees g.row.FIRST g.row.SECOND x.control x.memory c.self.invariant c.reclaim_groups.new.control c.reclaim_groups.new.memory _ c.self.view_is
    c.args.max c.reclaim_groups.result c.reclaim_groups.ensures.frees).0

pub returns-clause-frees : goal.returns-clause-frees
returns-clause-frees g c =
    let x = c.self.inside in
    (frees g.row.FIRST g.row.SECOND x.control x.memory c.self.invariant c.reclaim_groups.new.control c.reclaim_groups.new.memory _ c.self.view_is
    c.args.max c.reclaim_groups.result c.reclaim_groups.ensures.frees).1
