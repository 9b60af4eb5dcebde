use Rattle.std.proofs.Common.{arith, rules, refl, ap, ◌∙◌, List}
use Rattle.std.specs.Prelude.{IsErr}
use Rattle.lpm_trace.specs.declared.step.WriterStep.{WriterStep}
use Rattle.lpm_trace.specs.States.{InitialState}
use Rattle.lpm_writer.specs.Commands.{IsWaiting}
use Rattle.shared_words.specs.declared.view.View.{View}
use Rattle.shared_words.specs.Layout.{initial_state_of}
use Rattle.shared_fib.specs.LentSeats.{LentSeat, SharedDid}
use Rattle.shared_fib.proofs.SeatMemory.{rests_after}
use Rattle.shared_fib.proofs.Synchronizations.{exhausted_by, synchronized}
use Rattle.shared_fib.proofs.synchronize.start_and_check.Goals as goal

pub start_synchronize-requires : goal.start_synchronize-requires
start_synchronize-requires g c =
    let m : LentSeat = c.args.memory.now in
    (omega arith, (initial_state_of m.view.initial, m.view.writer_steps, c.requires.did, c.requires.rests))

pub check_until_passed-requires : goal.check_until_passed-requires
check_until_passed-requires g c =
    let l = c.args.control.now in
    let m : LentSeat = c.args.memory.now in
    let z : LentSeat = c.start_synchronize.new.memory in
    let initial : InitialState = initial_state_of m.view.initial in
    let started = c.in_ok-start_synchronize.ensures.starts initial m.view.writer_steps c.requires.did c.requires.rests in
    let Waits : InitialState → List WriterStep → Type 0 = λ by later.
    IsWaiting g.row.FIRST g.row.SECOND by later l.config l.rules l.pool l.versions in
    let did = rests_after (SharedDid z) z initial started.0 started.1 started.1 in
    (omega arith, (omega arith, (did, rests_after Waits z initial started.0 started.1 started.3)))

pub returns-in_err-start_synchronize-clause-exhausted : goal.returns-in_err-start_synchronize-clause-exhausted
returns-in_err-start_synchronize-clause-exhausted g c =
    let m : LentSeat = c.args.memory.now in
    let refused : IsErr c.from_residual.result = search rules in
    let known = exhausted_by (initial_state_of m.view.initial) m.view.writer_steps _ c.args.control.now.config.groups
    c.in_err-start_synchronize.ensures.exhausted in
    (λ _. known.0 refl, λ _. refused)

pub returns : goal.returns
returns g c =
    let m : LentSeat = c.args.memory.now in
    let y : LentSeat = c.start_synchronize.new.memory in
    let z : LentSeat = c.check_until_passed.new.memory in
    let initial : InitialState = initial_state_of m.view.initial in
    let started = c.in_ok-start_synchronize.ensures.starts initial m.view.writer_steps c.requires.did c.requires.rests in
    let does = started.2.0 in
    let passed = c.check_until_passed.ensures in
    let after : View → View = λ v. record v { writer_steps = z.view.writer_steps } in
    record {
      exhausted = exhausted_by initial m.view.writer_steps _ c.args.control.now.config.groups c.in_ok-start_synchronize.ensures.exhausted;
      synchronizes = synchronized m y z.view.writer_steps does passed.passes;
      queued = passed.queued;
      rests = passed.rests;
      same = passed.same;
      unchanged = tt;
      untouched = tt;
      name = passed.name ∙ does.name;
      table = passed.table ∙ does.table;
      view = ◌∙◌ {b = after y.view} passed.view (ap after does.view);
    }
