use Rattle.std.proofs.Common.{arith, ◌+◌, ap, subst}
use Rattle.lpm_rules.specs.RuleMap.{RuleList, AllNetworks}
use Rattle.lpm_rules.proofs.Deep.{last_init, last_more, last_all}
use Rattle.lpm_rules.proofs.Rules.last_deep_block.Goals as goal

pub loop-len-init : goal.loop-len-init
loop-len-init g c = last_init g.row.FIRST g.row.SECOND c.args.end c.args.self.now.rules

pub loop-len-preserved : goal.loop-len-preserved
loop-len-preserved g c =
    last_more g.row.FIRST g.row.SECOND c.args.end c.loop-len.len c.args.self.now.rules (omega arith)
    c.loop-len.last c.last_block.result c.max-last.result c.max-last.ensures c.loop-len.invariant c.last_block.ensures

pub returns-2 : goal.returns-2
returns-2 g c =
    let nets = subst (AllNetworks (g.row.FIRST + g.row.SECOND)) (ap (λ (m : RuleList). m.rules) c.self.view_is) c.self.invariant.networks in
    last_all g.row.FIRST g.row.SECOND c.args.end (c.loop-len.len + 1) c.args.self.now.rules nets (omega arith) c.max-last.result
    (last_more g.row.FIRST g.row.SECOND c.args.end c.loop-len.len c.args.self.now.rules (omega arith)
    c.loop-len.last c.last_block.result c.max-last.result c.max-last.ensures c.loop-len.invariant c.last_block.ensures)
