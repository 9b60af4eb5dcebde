use Rattle.std.proofs.Common.{arith}
use Rattle.std.proofs.lemmas.Grind.{common_steps}
use Rattle.interleave.proofs.probe.set_out.Goals as goal

pub loop-addr-preserved : goal.loop-addr-preserved
loop-addr-preserved c = grind (arith, common_steps)
