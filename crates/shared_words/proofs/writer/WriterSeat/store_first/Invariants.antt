use Rattle.lpm_trace.specs.declared.step.WriterStep.TheVariants.{StoreFirst}
use Rattle.shared_words.specs.Seats.{WriterGains}
use Rattle.shared_words.proofs.writer.WriterSeat.store_first.Given as goal

abbrev pub ghosts-store_as : goal.ghosts-store_as
ghosts-store_as g a = record { then = λ s me n. WriterGains (StoreFirst a.told.0 a.told.1) me }
