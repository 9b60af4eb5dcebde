use Rattle.std.proofs.Common.{◌+◌, arith}
use Rattle.lpm_commands.proofs.CoverSearch.{found_next, found_all, first_answers}
use Rattle.lpm_commands.proofs.explanation.covering_rules.Goals as goal

pub loop-host-preserved : goal.loop-host-preserved
loop-host-preserved g c = found_next (g.row.FIRST + g.row.SECOND) c.args.rules.now.rules c.args.addr c.loop-host.host c.loop-host.found.items c.push_found.new.found.items c.rule_of_length.result c.len-count.ensures.networks (omega arith) c.rule_of_length.ensures c.in_ok-push_found.ensures c.loop-host.invariant

pub returns-clause-covering : goal.returns-clause-covering
returns-clause-covering g c = found_all (g.row.FIRST + g.row.SECOND) c.args.rules.now.rules c.args.addr c.loop-host.host c.loop-host.found.items (omega arith) c.loop-host.invariant

pub returns-clause-answered : goal.returns-clause-answered
returns-clause-answered g c = first_answers (g.row.FIRST + g.row.SECOND) c.args.rules.now.rules c.args.addr c.loop-host.found.items (found_all (g.row.FIRST + g.row.SECOND) c.args.rules.now.rules c.args.addr c.loop-host.host c.loop-host.found.items (omega arith) c.loop-host.invariant)
