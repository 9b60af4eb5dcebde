use Rattle.lpm_rules.proofs.NextRules.{IsNextBelow}
use Rattle.lpm_rules.proofs.Rules.next_after.Given as goal

-- the next rule by those of the lengths before this one
abbrev pub invariant-loop-len : goal.invariant-loop-len
invariant-loop-len g l = IsNextBelow l.len l.self.rules l.after l.next
