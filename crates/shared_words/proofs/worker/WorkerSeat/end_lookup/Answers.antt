use Rattle.std.proofs.Common.{refl, arith, sym, subst}
use Rattle.lpm_trace.specs.Trace.{worker_by, AreAnswered}
use Rattle.shared_words.specs.Seats.{WorkerAt}
use Rattle.shared_words.proofs.WorkerSteps.{ends_allowed, own_inside, phase_inside}
use Rattle.shared_words.proofs.worker.WorkerSeat.end_lookup.Goals as goal

pub load-requires : goal.load-requires
load-requires g c =
    let own = own_inside c.table.view_is c.self.view_is c.requires.own in (
      own.same,
      omega (arith, own.words),
      ends_allowed _ _ _ _ _ _ c.self.invariant.role refl (phase_inside c.self.view_is c.requires.looking)
          (subst (λ (s : WorkerAt). AreAnswered (worker_by s.view.own_steps).probes) (sym c.self.view_is) c.requires.answered),
    )
