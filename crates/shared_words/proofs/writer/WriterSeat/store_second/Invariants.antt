use Rattle.lpm_trace.specs.declared.step.WriterStep.TheVariants.{StoreSecond}
use Rattle.shared_words.specs.Seats.{WriterGains}
use Rattle.shared_words.proofs.writer.WriterSeat.store_second.Given as goal

abbrev pub ghosts-store_as : goal.ghosts-store_as
ghosts-store_as g a = record { then = λ s me n. WriterGains (StoreSecond a.told.0 a.told.1) me }
