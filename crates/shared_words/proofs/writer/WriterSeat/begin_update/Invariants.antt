use Rattle.lpm_trace.specs.declared.step.WriterStep.TheVariants.{BeginUpdate}
use Rattle.shared_words.specs.Seats.{WriterGains}
use Rattle.shared_words.proofs.writer.WriterSeat.begin_update.Given as goal

abbrev pub ghosts-store_as : goal.ghosts-store_as
ghosts-store_as g a = record { then = λ s me n. WriterGains (BeginUpdate a.told.now) me }
