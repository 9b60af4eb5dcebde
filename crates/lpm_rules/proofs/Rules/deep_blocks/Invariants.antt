use Rattle.std.proofs.Common.{◌≡◌, ◌+◌, ◌^◌, ◌≤◌}
use Rattle.std.specs.FinSet as set
use Rattle.lpm_rules.specs.Deep.{deep_blocks}
use Rattle.lpm_rules.proofs.Deep.{before}
use Rattle.lpm_rules.proofs.Rules.deep_blocks.Given as goal

-- the blocks from `end` on are counted
abbrev pub invariant-loop-block : goal.invariant-loop-block
invariant-loop-block g l =
    let blocks = deep_blocks g.row.FIRST g.row.SECOND l.self.rules in
    (l.count + set.len (before blocks l.end) ≡ set.len blocks) × (l.count + l.end ≤ 2 ^ g.row.FIRST)

abbrev pub decreases-loop-block : goal.decreases-loop-block
decreases-loop-block g l = l.end
