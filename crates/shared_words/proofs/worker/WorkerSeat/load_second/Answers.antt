use Rattle.std.proofs.Common.{rules}
use Rattle.shared_words.proofs.WorkerSteps.{second_allowed, phase_inside}
use Rattle.shared_words.proofs.worker.WorkerSeat.load_second.Goals as goal

pub load_as-shared-requires-clause-allowed : goal.load_as-shared-requires-clause-allowed
load_as-shared-requires-clause-allowed g c =
    second_allowed _ _ _ _ _ _ c.self.invariant.role c.args.j (search rules) (search rules)
    (phase_inside c.self.view_is c.requires.looking) (search rules) (search rules)
