use Rattle.std.proofs.Common.{◌≡◌}
use Rattle.lpm_writer.specs.Commands.{IsWaiting}
use Rattle.shared_words.specs.Layout.{initial_state_of}
use Rattle.shared_fib.proofs.Synchronizations.{HasWaited}
use Rattle.shared_fib.proofs.synchronize.check_until_passed.Given as goal

abbrev pub invariant-loop : goal.invariant-loop
invariant-loop g l = record {
  control : l.control ≡ l.fn.control;
  waited : HasWaited l.fn.memory l.memory;
  waits : IsWaiting g.row.FIRST g.row.SECOND (initial_state_of l.fn.memory.view.initial) l.memory.view.writer_steps
      l.control.config l.control.rules l.control.pool l.control.versions;
}
