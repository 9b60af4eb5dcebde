use Rattle.lpm_trace.specs.declared.step.WorkerStep.TheVariants.{BeginLookup}
use Rattle.shared_words.specs.Seats.{WorkerGains}
use Rattle.shared_words.proofs.worker.WorkerSeat.begin_lookup.Given as goal

abbrev pub ghosts-load_as : goal.ghosts-load_as
ghosts-load_as g a = record { then = λ s me n. WorkerGains (BeginLookup a.told.now n) me }
