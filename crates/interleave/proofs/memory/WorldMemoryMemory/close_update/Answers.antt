use Rattle.std.proofs.Common.{arith}
use Rattle.lpm_trace.specs.declared.step.WriterStep.TheVariants.{EndUpdate}
use Rattle.interleave.proofs.Turns.{sequence_low, step_does}
use Rattle.interleave.proofs.memory.WorldMemoryMemory.close_update.Goals as goal

pub bump_sequence-requires : goal.bump_sequence-requires
bump_sequence-requires g c = (omega arith, sequence_low EndUpdate c.requires.may c.reach.ensures.reaches)

pub returns : goal.returns
returns g c = record {
  does = step_does EndUpdate c.reach.result c.reach.ensures.shared c.reach.ensures.reaches c.reach.ensures.found tt
      c.bump_sequence.ensures.left c.bump_sequence.ensures.ended;
}
