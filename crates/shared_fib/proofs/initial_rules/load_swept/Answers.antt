use Rattle.std.proofs.Common.{refl, arith, rules}
use Rattle.shared_fib.specs.declared.initial_table.InitialTable.{InitialTable}
use Rattle.lpm_rules.specs.RuleMap.{rules_of}
use Rattle.shared_fib.proofs.SweepWords.{few_firsts, few_seconds, swept_loaded}
use Rattle.shared_fib.proofs.initial_rules.load_swept.Goals as goal

pub returns-clause-loaded : goal.returns-clause-loaded
returns-clause-loaded g c =
    let f = g.row.FIRST in
    let s = g.row.SECOND in
    let config = c.args.config in
    let z = c.in_ok-control.control in
    let layout = c.new-layout in
    let narrow = few_firsts f s c.requires.shape in
    let small = few_seconds f s config.groups c.requires.shape c.requires.limits.groups.1 in
    let l : InitialTable f s = record {
      words = c.args.words;
      layout = layout.result;
      rules = z.rules;
      groups = z.pool.groups;
    } in
    swept_loaded f s config (rules_of c.args.rules.now) c.args.words.items c.args.blocks.now c.requires.shape c.requires.limits
    c.requires.swept l z.pool.queue z (search rules) refl (omega (arith, layout.ensures.firsts, narrow))
    (omega (arith, layout.ensures.seconds, small)) layout.ensures.workers refl refl refl
