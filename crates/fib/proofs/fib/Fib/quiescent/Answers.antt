use Rattle.fib.proofs.Sound.{reported_token}
use Rattle.fib.proofs.fib.Fib.quiescent.Goals as goal

pub invariant_of-self : goal.invariant_of-self
invariant_of-self g c =
    let x = c.self.inside in
    reported_token g.row.FIRST g.row.SECOND x.control x.memory c.args.worker c.quiescent.new.self c.self.invariant c.quiescent.ensures.stored
