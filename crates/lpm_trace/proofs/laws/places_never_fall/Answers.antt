use Rattle.lpm_trace.proofs.Promises.{places_never_fall as law}
use Rattle.lpm_trace.proofs.laws.places_never_fall.Goals as goal

pub returns : goal.returns
returns c = law
