use Rattle.std.proofs.Common.{◌≡◌, take}
use Rattle.interleave.specs.World.{scripts_and_schedule}
use Rattle.interleave.proofs.Ends.{HasAnswered}
use Rattle.interleave.proofs.changes.answer_all.Given as goal

abbrev pub invariant-loop-change : goal.invariant-loop-change
invariant-loop-change g l = record {
  config : l.control.config ≡ l.fn.control.config;
  scripts_are : scripts_and_schedule l.memory ≡ scripts_and_schedule l.fn.memory;
  answered : HasAnswered g.row.FIRST g.row.SECOND l.fn.memory l.fn.control (take l.change-index l.changes) l.replies.items l.memory l.control;
}
