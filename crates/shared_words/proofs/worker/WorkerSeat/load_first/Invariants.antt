use Rattle.shared_words.specs.Layout.{half}
use Rattle.shared_words.proofs.WorkerSteps.{WorkerGainsFirst}
use Rattle.shared_words.proofs.worker.WorkerSeat.load_first.Given as goal

abbrev pub ghosts-load_as : goal.ghosts-load_as
ghosts-load_as g a = record { then = λ s me n. WorkerGainsFirst me (half a.told n) }
