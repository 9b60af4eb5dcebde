use Rattle.interleave.proofs.Ends.{initial_states_are_settled as law}
use Rattle.interleave.proofs.laws.initial_states_are_settled.Goals as goal

pub returns : goal.returns
returns c = law
