use Rattle.lpm_rules.proofs.Deep.{last_is_end, none_below, none_below_more}
use Rattle.lpm_rules.specs.Deep.{IsBlockOf}
use Rattle.lpm_rules.proofs.Rules.is_deep.Goals as goal

pub loop-len-init : goal.loop-len-init
loop-len-init g c = none_below g.row.FIRST g.row.SECOND c.args.block c.args.self.now.rules

pub loop-len-preserved : goal.loop-len-preserved
loop-len-preserved g c =
    let here = last_is_end (IsBlockOf g.row.SECOND c.args.self.now.rules c.loop-len.len) c.args.block c.last_block.result c.last_block.ensures in
    none_below_more g.row.FIRST g.row.SECOND c.args.block c.loop-len.len c.args.self.now.rules c.loop-len.invariant
    (λ has. let on = here.1 has in let off = c.if-eq.ensures in cc)
