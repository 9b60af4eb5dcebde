use Rattle.std.proofs.Common.{take}
use Rattle.lpm_commands.specs.Explain.{AreExplanations}
use Rattle.lpm_commands.proofs.explain_command.explanations.Given as goal

abbrev pub invariant-loop-addr : goal.invariant-loop-addr
invariant-loop-addr l = AreExplanations l.rules.rules l.cells (take l.addr-index l.addrs) l.text.items
