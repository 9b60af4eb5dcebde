use Rattle.std.proofs.Common.{ap}
use Rattle.lpm_rules.specs.RuleMap.{RuleMap}
use Rattle.lpm_rules.proofs.LengthMaps.{lengths_are, sound_of}
use Rattle.lpm_rules.proofs.Rules.of_sorted.Goals as goal

pub returns : goal.returns
returns g c = ap (λ (R : RuleMap). record { rules = R; max = c.args.max })
    (lengths_are g.row.FIRST g.row.SECOND c.args.rules.now c.in_ok-lists.lists c.in_ok-lengths.lengths
    c.requires.shape c.in_ok-lists.ensures.networks c.in_ok-lists.ensures.pairs c.in_ok-lengths.ensures)

pub invariant_of-result : goal.invariant_of-result
invariant_of-result g c =
    sound_of g.row.FIRST g.row.SECOND c.args.rules.now c.in_ok-lists.lists c.in_ok-lengths.lengths
    c.requires.shape c.in_ok-lists.ensures.networks c.in_ok-lists.ensures.pairs c.in_ok-lengths.ensures
    c.count_rules-count.result c.count_rules-count.ensures
