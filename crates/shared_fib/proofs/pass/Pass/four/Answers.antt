use Rattle.std.proofs.Common.{[], ◌∷◌}
use Rattle.shared_fib.proofs.Makes.{looks_up_all}
use Rattle.shared_fib.proofs.pass.Pass.four.Goals as goal

pub returns-clause-answers : goal.returns-clause-answers
returns-clause-answers g c =
    let found = c.lookup_four_addresses-found in
    let a = c.args in
    looks_up_all c.self.inside.is_online _ (a.a ∷ a.b ∷ a.c ∷ a.d ∷ []) found.result.hops found.result.lo found.result.hi
    c.self.inside.seat found.new.seat c.args.self.now c.self.view_is
    found.ensures.own found.ensures.worker found.ensures.answers c.view_is_sound.ensures
