use Rattle.shared_words.proofs.WorkerSteps.{store_online_allowed, own_inside, phase_inside, at_counter}
use Rattle.shared_words.proofs.worker.WorkerSeat.store_online.Goals as goal

pub store-requires : goal.store-requires
store-requires g c =
    at_counter c.self.invariant (own_inside c.table.view_is c.self.view_is c.requires.own) c.counter_at-at.ensures
    (λ there. store_online_allowed _ _ _ _ _ _ c.self.invariant.role c.args.token there
    (phase_inside c.self.view_is c.requires.loaded))
