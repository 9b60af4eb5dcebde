use Rattle.std.proofs.Common.{arith}
use Rattle.lpm_commands.proofs.CoverSearch.{next_explained}
use Rattle.lpm_commands.proofs.explain_command.explanations.Goals as goal

pub loop-addr-preserved : goal.loop-addr-preserved
loop-addr-preserved c = next_explained c.args.rules.now.rules c.args.cells.now c.args.addrs.now c.loop-addr.addr-index _ c.loop-addr.text.items _ (omega arith) c.loop-addr.invariant c.in_ok-put_explained.ensures
