use Rattle.std.proofs.Common.{◌≡◌, map, take}
use Rattle.lpm_groups.specs.declared.GroupState.TheVariants.{Linked}
use Rattle.lpm_groups.proofs.Groups.of_blocks.Given as goal

-- the blocks up to here have their groups
abbrev pub invariant-loop-block : goal.invariant-loop-block
invariant-loop-block l = l.states.items ≡ map Linked (take l.block-index l.blocks)
