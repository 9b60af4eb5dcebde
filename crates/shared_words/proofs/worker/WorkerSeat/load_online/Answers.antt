use Rattle.std.proofs.Common.{refl, arith}
use Rattle.shared_words.proofs.WorkerSteps.{load_online_allowed, own_inside, phase_inside}
use Rattle.shared_words.proofs.worker.WorkerSeat.load_online.Goals as goal

pub load-requires : goal.load-requires
load-requires g c =
    let own = own_inside c.table.view_is c.self.view_is c.requires.own in (
      own.same,
      omega (arith, own.words),
      load_online_allowed _ _ _ _ _ _ c.self.invariant.role refl (phase_inside c.self.view_is c.requires.offline),
    )
