use Rattle.fib.proofs.Sound.{flushes}
use Rattle.fib.proofs.fib.Fib.flush.Goals as goal

pub invariant_of-self : goal.invariant_of-self
invariant_of-self g c =
    let x = c.self.inside in
    (flushes g.row.FIRST g.row.SECOND x.control x.memory c.self.invariant c.flush_rules.new.control c.flush_rules.new.memory _ c.self.view_is
    c.flush_rules.result c.flush_rules.ensures.flushes).0

pub returns-clause-flushes : goal.returns-clause-flushes
returns-clause-flushes g c =
    let x = c.self.inside in
    (flushes g.row.FIRST g.row.SECOND x.control x.memory c.self.invariant c.flush_rules.new.control c.flush_rules.new.memory _ c.self.view_is
    c.flush_rules.result c.flush_rules.ensures.flushes).1
