use Rattle.std.proofs.Common.{ℕ, ◌+◌, ◌<◌, ◌≤◌}
use Rattle.lpm_rules.specs.Longest.{IsLongestHop}
use Rattle.audit.specs.Wrong.{version_of}
use Rattle.audit.proofs.past.Past.some_gives.Given as goal

-- no version before this one gives the answer
abbrev pub invariant-loop-version : goal.invariant-loop-version
invariant-loop-version g l = (k : ℕ) → l.fn.first ≤ k → k < l.version → IsLongestHop (g.row.FIRST + g.row.SECOND) (version_of l.self k) l.addr l.answer.hop → ⊥
