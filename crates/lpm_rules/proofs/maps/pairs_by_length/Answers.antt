use Rattle.std.proofs.Common.{arith, ◌+◌, subst, List}
use Rattle.std.proofs.lemmas.List.{take_all}
use Rattle.lpm_rules.specs.RuleMap.{AllNetworks, rules_of}
use Rattle.lpm_rules.specs.declared.Rule.{Rule}
use Rattle.lpm_rules.specs.Changes.{ArePairs}
use Rattle.lpm_rules.proofs.Views.{networks_empty}
use Rattle.lpm_rules.proofs.LengthMaps.{pairs_on, networks_on}
use Rattle.lpm_rules.proofs.maps.pairs_by_length.Goals as goal

pub loop-rule-init : goal.loop-rule-init
loop-rule-init g c = record {
  pairs = record {
    long = c.from_fn-lists.ensures.items.long;
    each = λ len d low. let z = c.from_fn-lists.ensures.items.at len d low in assumption z;
  };
  networks = networks_empty (g.row.FIRST + g.row.SECOND);
}

pub loop-rule-preserved : goal.loop-rule-preserved
loop-rule-preserved g c =
    let inv = c.loop-rule.invariant in
    let rs = c.args.rules.now in
    let i = c.loop-rule.rule-index in
    let r = c.rule-item.result in
    let long = inv.pairs.long in
    let bound = c.len.ensures.bound in
    let shape = c.bits-bits.ensures.shape in
    record {
      pairs = pairs_on rs i r c.loop-rule-test.true c.rule-item.is c.loop-rule.lists _ c.index-lists-len.result
          c.bits-bits.result c.len.result c.bits-bits.ensures.value c.len.ensures.value (omega (arith, long, bound, shape)) c.in_ok-push.ensures.items inv.pairs;
      networks = networks_on rs i r c.loop-rule-test.true c.rule-item.is (g.row.FIRST + g.row.SECOND) c.bits-bits.ensures.network inv.networks;
    }

pub returns-clause-pairs : goal.returns-clause-pairs
returns-clause-pairs g c =
    let rs = c.args.rules.now in
    subst (λ (l : List (Rule g.row.FIRST g.row.SECOND)). ArePairs l c.loop-rule.lists) (take_all c.loop-rule.rule-index rs c.loop-rule-test.false) c.loop-rule.invariant.pairs

pub returns-clause-networks : goal.returns-clause-networks
returns-clause-networks g c =
    let rs = c.args.rules.now in
    subst (λ (l : List (Rule g.row.FIRST g.row.SECOND)). AllNetworks (g.row.FIRST + g.row.SECOND) (rules_of l)) (take_all c.loop-rule.rule-index rs c.loop-rule-test.false) c.loop-rule.invariant.networks
