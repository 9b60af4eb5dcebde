use Rattle.lpm_trace.proofs.Promises.{own_lookups_are_legal as law}
use Rattle.lpm_trace.proofs.laws.own_lookups_are_legal.Goals as goal

pub returns : goal.returns
returns c = law
