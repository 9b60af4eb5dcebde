use Rattle.std.proofs.Common.{◌≡◌}
use Rattle.interleave.specs.World.{WorldDid, scripts_and_schedule}
use Rattle.interleave.proofs.Synchronizations.{HasWaited}
use Rattle.interleave.proofs.synchronize.synchronize.Given as goal

abbrev pub invariant-loop-check : goal.invariant-loop-check
invariant-loop-check g l = record {
  control : l.control ≡ l.fn.control;
  scripts_are : scripts_and_schedule l.memory ≡ scripts_and_schedule l.fn.memory;
  waited : HasWaited (WorldDid g.row.FIRST g.row.SECOND) g.row.FIRST g.row.SECOND l.fn.memory l.fn.control.config l.fn.control.rules l.fn.control.pool l.fn.control.versions l._check l.memory;
}
