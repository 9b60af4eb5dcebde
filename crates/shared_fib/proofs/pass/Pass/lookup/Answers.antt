use Rattle.shared_fib.proofs.Makes.{looks_up}
use Rattle.shared_fib.proofs.pass.Pass.lookup.Goals as goal

pub returns-clause-answer : goal.returns-clause-answer
returns-clause-answer g c =
    looks_up c.self.inside.is_online _ c.args.addr c.lookup_address-found.result.hop c.lookup_address-found.result.lo c.lookup_address-found.result.hi
    c.self.inside.seat c.lookup_address-found.new.seat c.args.self.now c.self.view_is
    c.lookup_address-found.ensures.own c.lookup_address-found.ensures.worker c.lookup_address-found.ensures.answer c.view_is_sound.ensures
