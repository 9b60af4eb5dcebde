use Rattle.fib_model.proofs.LimboFront.{unheld_by_none as law}
use Rattle.fib_model.proofs.laws.unheld_by_none.Goals as goal

pub returns : goal.returns
returns c = law
