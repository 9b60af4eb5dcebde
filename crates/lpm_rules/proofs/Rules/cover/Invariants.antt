use Rattle.std.proofs.Common.{◌+◌, ◌≤◌, ◌<◌}
use Rattle.std.specs.Prelude.{IsSome}
use Rattle.std.specs.FinMap as map
use Rattle.lpm_bits.specs.Network.{Network, Covers}
use Rattle.lpm_rules.proofs.Rules.cover.Given as goal

-- each shorter rule that covers the prefix is short enough to be still ahead
abbrev pub invariant-loop-shorter : goal.invariant-loop-shorter
invariant-loop-shorter g l =
    let width = g.row.FIRST + g.row.SECOND in
    (q : Network) → IsSome (map.get l.self.rules q) → q.len < l.prefix.len → Covers width q l.prefix.bits → q.len + l.shorter ≤ l.prefix.len
