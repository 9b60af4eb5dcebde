use Rattle.lpm_trace.proofs.Promises.{versions_never_fall_at_places as law}
use Rattle.lpm_trace.proofs.laws.versions_never_fall_at_places.Goals as goal

pub returns : goal.returns
returns c = law
