use Rattle.lpm_rules.proofs.Deep.{IsDeepBlockBelow}
use Rattle.lpm_rules.proofs.Rules.is_deep.Given as goal

-- no rule of the lengths before this one lies in the block
abbrev pub invariant-loop-len : goal.invariant-loop-len
invariant-loop-len g l = ¬ IsDeepBlockBelow g.row.FIRST g.row.SECOND l.self.rules l.len l.block
