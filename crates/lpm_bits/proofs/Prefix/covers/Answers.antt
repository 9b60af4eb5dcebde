use Rattle.std.proofs.Common.{rules}
use Rattle.lpm_bits.proofs.Prefix.covers.Goals as goal

pub returns : goal.returns
returns g c = search rules
