use Rattle.std.proofs.Common.{refl, rules}
use Rattle.shared_words.proofs.WorkerSteps.{begins_allowed, phase_inside}
use Rattle.shared_words.proofs.worker.WorkerSeat.begin_lookup.Goals as goal

pub load_as-requires-clause-allowed : goal.load_as-requires-clause-allowed
load_as-requires-clause-allowed g c =
    begins_allowed _ _ _ _ _ _ c.self.invariant.role c.args.addrs.now refl
    (phase_inside c.self.view_is c.requires.online) (search rules)
