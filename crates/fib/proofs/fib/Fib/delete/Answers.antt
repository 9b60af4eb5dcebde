use Rattle.fib.proofs.Sound.{deletes}
use Rattle.fib.proofs.fib.Fib.delete.Goals as goal

pub invariant_of-self : goal.invariant_of-self
invariant_of-self g c =
    let x = c.self.inside in
    (deletes g.row.FIRST g.row.SECOND x.control x.memory c.self.invariant c.delete_rule.new.control c.delete_rule.new.memory _ c.self.view_is
    c.args.prefix.now c.delete_rule.result c.delete_rule.ensures.deletes).0

pub returns-clause-deletes : goal.returns-clause-deletes
returns-clause-deletes g c =
    let x = c.self.inside in
    (deletes g.row.FIRST g.row.SECOND x.control x.memory c.self.invariant c.delete_rule.new.control c.delete_rule.new.memory _ c.self.view_is
    c.args.prefix.now c.delete_rule.result c.delete_rule.ensures.deletes).1
