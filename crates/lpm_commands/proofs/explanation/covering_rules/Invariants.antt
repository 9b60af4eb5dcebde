use Rattle.std.proofs.Common.{◌+◌}
use Rattle.lpm_commands.proofs.CoverSearch.{AreFound}
use Rattle.lpm_commands.proofs.explanation.covering_rules.Given as goal

abbrev pub invariant-loop-host : goal.invariant-loop-host
invariant-loop-host g l = AreFound (g.row.FIRST + g.row.SECOND) l.rules.rules l.addr l.host l.found.items
