use Rattle.lpm_sweep.proofs.NewGroup.{room_grown}
use Rattle.lpm_sweep.proofs.laws.room_may_grow.Goals as goal

pub returns : goal.returns
returns c = λ f s more R firsts seconds represents. room_grown f s more R firsts seconds represents
