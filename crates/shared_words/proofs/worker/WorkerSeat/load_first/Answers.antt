use Rattle.std.proofs.Common.{rules}
use Rattle.shared_words.proofs.WorkerSteps.{first_allowed, phase_inside}
use Rattle.shared_words.proofs.worker.WorkerSeat.load_first.Goals as goal

pub load_as-shared-requires-clause-allowed : goal.load_as-shared-requires-clause-allowed
load_as-shared-requires-clause-allowed g c =
    first_allowed _ _ _ _ _ _ c.self.invariant.role c.args.i c.first_at-at.ensures (search rules)
    (phase_inside c.self.view_is c.requires.looking) (search rules)
