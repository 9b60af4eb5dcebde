use Rattle.std.proofs.Common.{rules}
use Rattle.lpm_bits.proofs.Prefix.new.Goals as goal

pub returns-clause-ok : goal.returns-clause-ok
returns-clause-ok g c = search rules
