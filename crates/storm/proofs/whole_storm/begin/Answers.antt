use Rattle.storm.proofs.Logs.{first_rules, made_none}
use Rattle.lpm_rules.specs.RuleMap.{rules_of}
use Rattle.storm.proofs.whole_storm.begin.Goals as goal

pub returns-clause-made : goal.returns-clause-made
returns-clause-made g c =
    let id = c.args.table.now in
    made_none g.row.FIRST g.row.SECOND id c.args.limits (rules_of c.args.plan.now.rules.now) c.args.plan.now.orders.now c.in_ok-outcomes.outcomes.items
    c.args.writer c.has_widths.ensures c.requires.token c.requires.workers c.requires.new c.table_rests.ensures c.in_ok-outcomes.ensures.items

pub returns-clause-rules : goal.returns-clause-rules
returns-clause-rules g c =
    first_rules g.row.FIRST g.row.SECOND c.args.table.now c.args.limits (rules_of c.args.plan.now.rules.now) c.args.writer c.requires.new c.table_rests.ensures
