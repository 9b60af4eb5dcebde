use Rattle.std.proofs.Common.{◌-◌, length}
use Rattle.interleave.specs.World.{StaysShared}
use Rattle.interleave.proofs.Turns.{PlaysOn}
use Rattle.interleave.proofs.world_memory.WorldMemory.play_out.Given as goal

abbrev pub invariant-loop-self : goal.invariant-loop-self
invariant-loop-self g l = record {
  shared : StaysShared l.fn.self l.self;
  plays : PlaysOn g.row.FIRST g.row.SECOND l.fn.self l.self;
}

abbrev pub decreases-loop-self : goal.decreases-loop-self
decreases-loop-self g l = length l.self.schedule - l.self.next
