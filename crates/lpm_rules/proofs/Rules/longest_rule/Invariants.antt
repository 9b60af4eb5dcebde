use Rattle.std.proofs.Common.{ℕ, ◌≡◌, ◌+◌, ◌<◌, ◌≤◌, None}
use Rattle.std.specs.FinMap.{get}
use Rattle.lpm_bits.specs.Network.{prefix_of}
use Rattle.lpm_rules.proofs.Rules.longest_rule.Given as goal

-- no prefix of the address that was tried has a rule
abbrev pub invariant-loop-host : goal.invariant-loop-host
invariant-loop-host g l =
    let width = g.row.FIRST + g.row.SECOND in
    (len : ℕ) → width < len + l.host → len ≤ width → get l.self.rules (prefix_of width len l.addr) ≡ None
