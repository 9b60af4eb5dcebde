use Rattle.std.proofs.Common.{◌≡◌}
use Rattle.std.specs.Prelude.{count_by}
use Rattle.std.specs.FinMap as map
use Rattle.lpm_rules.proofs.Deep.{is_deep_below}
use Rattle.lpm_rules.proofs.Rules.deep_in.Given as goal

-- the rules of the lengths before this one are counted
abbrev pub invariant-loop-len : goal.invariant-loop-len
invariant-loop-len g l =
    l.count ≡ count_by (is_deep_below g.row.FIRST g.row.SECOND l.block l.len) (map.keys l.self.rules)
