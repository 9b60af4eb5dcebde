use Rattle.fib.proofs.Sound.{reported_none}
use Rattle.fib.proofs.fib.Fib.offline.Goals as goal

pub invariant_of-self : goal.invariant_of-self
invariant_of-self g c =
    let x = c.self.inside in
    reported_none g.row.FIRST g.row.SECOND x.control x.memory c.args.worker c.offline.new.self c.self.invariant c.offline.ensures
