use Rattle.std.proofs.Common.{subst, sym}
use Rattle.lpm_trace.specs.declared.step.WriterStep.{WriterStep}
use Rattle.lpm_trace.specs.declared.step.WriterStep.TheVariants.{LoadCounter}
use Rattle.shared_words.specs.Seats.{MayFollow}
use Rattle.shared_fib.specs.LentSeats.{LentSeat}
use Rattle.shared_fib.specs.LentLaws.{shared_may}
use Rattle.shared_fib.proofs.memory.SharedMemoryMemory.load_counter.Goals as goal

pub load_worker_counter-requires-clause-may : goal.load_worker_counter-requires-clause-may
load_worker_counter-requires-clause-may g c = λ counter.
    let step : WriterStep = LoadCounter c.args.checked c.args.worker counter in
    subst (λ (m : LentSeat). MayFollow m.view step) (sym c.self.view_is)
    (shared_may c.args.self.now step (c.requires.may counter))
