use Rattle.std.proofs.Common.{◌+◌, ◌≤◌}
use Rattle.std.specs.Prelude.{IsSome}
use Rattle.std.specs.FinMap as map
use Rattle.lpm_bits.specs.Network.{Network, Covers}
use Rattle.audit.specs.Wrong.{version_of}
use Rattle.audit.proofs.past.Past.longest_at.Given as goal

-- each rule of the version that covers the address is short enough to be still ahead
abbrev pub invariant-loop-shorter : goal.invariant-loop-shorter
invariant-loop-shorter g l =
    (q : Network) → IsSome (map.get (version_of l.self l.version) q) → Covers (g.row.FIRST + g.row.SECOND) q l.addr → q.len + l.shorter ≤ 32
