use Rattle.lpm_trace.specs.declared.step.WriterStep.TheVariants.{LoadCounter}
use Rattle.shared_words.specs.Seats.{WriterGains}
use Rattle.shared_words.proofs.writer.WriterSeat.load_worker_counter.Given as goal

abbrev pub ghosts-load_as : goal.ghosts-load_as
ghosts-load_as g a = record { then = λ s me n. WriterGains (LoadCounter a.told.0 a.told.1 n) me }
