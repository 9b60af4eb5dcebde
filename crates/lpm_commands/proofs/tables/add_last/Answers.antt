use Rattle.std.proofs.Common.{◌∙◌, ap, sym, subst, ◌+◌, ◌<◌, Ok, drop, length, arith}
use Rattle.lpm_limits.specs.declared.config.Config.{Config}
use Rattle.lpm_rules.specs.RuleMap.{RuleMap, with_rules}
use Rattle.fib_model.specs.Outcomes.{Adds}
use Rattle.fib_model.specs.Counters.{counter_transitions}
use Rattle.lpm_commands.proofs.Texts.{added_rules}
use Rattle.lpm_commands.proofs.FilledTable.{filled_more}
use Rattle.lpm_commands.proofs.RuleOrder.{put_in}
use Rattle.lpm_commands.proofs.tables.add_last.Goals as goal

pub loop-index-preserved : goal.loop-index-preserved
loop-index-preserved c =
    let limits = c.args.table.now.config in
    let list = c.args.rules.now in
    let i = c.loop-index.index in
    let s = c.loop-index.table.table in
    let z = c.add.new.self.table in
    let r = c.index-rules-index.result in
    let put = c.in_ok-add.field-0 in
    let inv = c.loop-index.invariant in
    let within : i < length list = omega arith in
    let adds = subst (λ (x : Config). Adds counter_transitions 24 8 x s r.prefix r.hop (Ok put) z) inv.config c.in_ok-add.ensures.adds in
    record {
      config = c.in_ok-add.ensures.config ∙ inv.config;
      filled = filled_more limits s z r.prefix r.hop put inv.filled adds;
      rest = ap (λ (R : RuleMap). with_rules R (drop (i + 1) list)) (added_rules limits s z r.prefix r.hop put adds)
          ∙ (sym (put_in list i r within c.index-rules-index.is s.rules) ∙ inv.rest);
    }
