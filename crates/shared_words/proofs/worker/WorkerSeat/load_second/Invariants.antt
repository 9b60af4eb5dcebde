use Rattle.shared_words.specs.Layout.{half}
use Rattle.shared_words.proofs.WorkerSteps.{WorkerGainsSecond}
use Rattle.shared_words.proofs.worker.WorkerSeat.load_second.Given as goal

abbrev pub ghosts-load_as : goal.ghosts-load_as
ghosts-load_as g a = record { then = λ s me n. WorkerGainsSecond me (half a.told n) }
