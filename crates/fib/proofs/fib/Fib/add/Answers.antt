use Rattle.fib.proofs.Sound.{adds}
use Rattle.fib.proofs.fib.Fib.add.Goals as goal

pub invariant_of-self : goal.invariant_of-self
invariant_of-self g c =
    let x = c.self.inside in
    (adds g.row.FIRST g.row.SECOND x.control x.memory c.self.invariant c.add_rule.new.control c.add_rule.new.memory _ c.self.view_is
    c.args.prefix.now c.args.hop c.add_rule.result c.add_rule.ensures.adds).0

pub returns-clause-adds : goal.returns-clause-adds
returns-clause-adds g c =
    let x = c.self.inside in
    (adds g.row.FIRST g.row.SECOND x.control x.memory c.self.invariant c.add_rule.new.control c.add_rule.new.memory _ c.self.view_is
    c.args.prefix.now c.args.hop c.add_rule.result c.add_rule.ensures.adds).1
