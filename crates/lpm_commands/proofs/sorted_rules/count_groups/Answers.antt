use Rattle.std.proofs.Common.{◌∙◌, ap, sym, ◌<◌, length, List, arith}
use Rattle.std.proofs.lemmas.List.{take_all}
use Rattle.lpm_rules.specs.declared.Rule.{Rule}
use Rattle.lpm_rules.specs.RuleMap.{rules_of}
use Rattle.fib_model.specs.Outcomes.{groups_in_use}
use Rattle.lpm_commands.proofs.FilledTable.{none_in_use}
use Rattle.lpm_commands.proofs.Groups.{byte_at_most, one_rule_more}
use Rattle.lpm_commands.proofs.sorted_rules.count_groups.Goals as goal

pub loop-index-init : goal.loop-index-init
loop-index-init c = record { counted = sym none_in_use; few = omega arith }

pub loop-index-preserved : goal.loop-index-preserved
loop-index-preserved c =
    let inv = c.loop-index.invariant in
    let rs = c.args.rules.now in
    let i = c.loop-index.index in
    let few = inv.few in
    let within : i < length rs = omega arith in
    let byte = c.from-count.ensures in
    let most = byte_at_most c.begins_block.result in
    record {
      counted = one_rule_more rs i c.loop-index.count c.from-count.result c.begins_block.result within inv.counted c.from-count.ensures c.begins_block.ensures;
      few = omega (arith, few, byte, most);
    }

pub returns : goal.returns
returns c =
    c.loop-index.invariant.counted
    ∙ ap (λ (l : List (Rule 24 8)). groups_in_use 24 8 (rules_of l)) (take_all c.loop-index.index c.args.rules.now c.loop-index-test.false)
