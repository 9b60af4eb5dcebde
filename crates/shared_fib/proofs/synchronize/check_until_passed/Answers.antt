use Rattle.std.proofs.Common.{arith, ◌≡◌, ◌<◌, refl, ap, sym, ◌∙◌, subst, List, Ok}
use Rattle.lpm_trace.specs.declared.step.WriterStep.{WriterStep}
use Rattle.lpm_trace.specs.States.{InitialState}
use Rattle.lpm_writer.specs.declared.control.ControlState.{ControlState}
use Rattle.lpm_writer.specs.Rest.{IsResting}
use Rattle.lpm_writer.specs.Commands.{IsWaiting}
use Rattle.shared_words.specs.Layout.{initial_state_of}
use Rattle.shared_fib.specs.LentSeats.{LentSeat}
use Rattle.shared_fib.proofs.SeatMemory.{FixedPart, fixed_part, only_sees, rests_after, outcome_after}
use Rattle.shared_fib.proofs.Synchronizations.{not_yet, still, once_more, at_last, queued_passed}
use Rattle.shared_fib.proofs.synchronize.check_until_passed.Goals as goal

pub loop-init : goal.loop-init
loop-init g c = record {
  control = refl;
  waited = not_yet c.args.memory.now c.requires.did;
  waits = c.requires.waits;
}

pub check_synchronize-requires : goal.check_synchronize-requires
check_synchronize-requires g c =
    let m : LentSeat = c.args.memory.now in
    let y : LentSeat = c.loop.memory in
    let so_far = c.loop.invariant in
    (omega arith, (initial_state_of m.view.initial, y.view.writer_steps, so_far.waited.did, so_far.waits))

pub loop-preserved : goal.loop-preserved
loop-preserved g c =
    let new = c.check_synchronize.new.control in
    let m : LentSeat = c.args.memory.now in
    let so_far = c.loop.invariant in
    let now = c.in-Err.ensures.checks _ _ so_far.waited.did so_far.waits in
    record {
      control = c.in-Err.ensures.stopped ∙ so_far.control;
      waited = once_more m c.loop.memory c.check_synchronize.new.memory so_far.waited now.0 now.1 c.in-Err.field-0 now.2;
      waits = outcome_after (λ later. IsWaiting g.row.FIRST g.row.SECOND (initial_state_of m.view.initial) later
          new.config new.rules new.pool new.versions) c.check_synchronize.new.memory _ now.0 now.1 now.4;
    }

pub returns-in-Ok : goal.returns-in-Ok
returns-in-Ok g c =
    let f = g.row.FIRST in
    let s = g.row.SECOND in
    let new = c.check_synchronize.new.control in
    let m : LentSeat = c.args.memory.now in
    let y : LentSeat = c.loop.memory in
    let z : LentSeat = c.check_synchronize.new.memory in
    let initial : InitialState = initial_state_of m.view.initial in
    let so_far = c.loop.invariant in
    let now = c.in-Ok.ensures.checks initial y.view.writer_steps so_far.waited.did so_far.waits in
    let all : fixed_part z ≡ fixed_part m = still m y z so_far.waited now.0 now.1 (Ok tt) now.2 in
    let Rests : InitialState → List WriterStep → Type 0 = λ by later.
    IsResting f s by later new.config new.rules new.pool new.versions in
    let rests = rests_after Rests z initial now.0 now.1 now.3 in
    let passed : ControlState f s → ControlState f s = λ l.
    record l { pool = record l.pool { passed = new.pool.passed } } in
    let is : new ≡ passed c.args.control.now =
    ◌∙◌ {b = passed c.loop.control} c.in-Ok.ensures.same (ap passed so_far.control) in
    record {
      passes = at_last m y z so_far.waited now.0 now.1 now.2;
      queued = λ some. queued_passed f s (initial_state_of z.view.initial) z.view.writer_steps new.config new.rules
          new.pool new.versions rests c.in-Ok.ensures.queued
          (subst (λ (l : ControlState f s). 0 < l.config.workers) (sym is) some);
      rests = rests;
      same = is;
      name = ap (λ (k : FixedPart). k.0) all;
      table = ap (λ (k : FixedPart). k.1.0) all;
      view = only_sees m z all;
    }
