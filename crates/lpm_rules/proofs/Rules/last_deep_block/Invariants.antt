use Rattle.lpm_rules.specs.Deep.{IsLastBefore}
use Rattle.lpm_rules.proofs.Deep.{IsDeepBlockBelow}
use Rattle.lpm_rules.proofs.Rules.last_deep_block.Given as goal

-- the last block by the rules of the lengths before this one
abbrev pub invariant-loop-len : goal.invariant-loop-len
invariant-loop-len g l =
    IsLastBefore (IsDeepBlockBelow g.row.FIRST g.row.SECOND l.self.rules l.len) l.end l.last
