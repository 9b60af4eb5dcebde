use Rattle.std.proofs.Common.{◌≡◌, rules}
use Rattle.std.specs.Prelude.{OnErr, OnOk}
use Rattle.std.proofs.lemmas.Result.{on_ok_weaker}
use Rattle.lpm_writer.specs.Steps.{Synchronizes}
use Rattle.shared_words.specs.declared.view.View.{View}
use Rattle.shared_fib.specs.RunningTable.{OnlySees}
use Rattle.shared_fib.proofs.TokenChecks.{looked, synchronize_checked}
use Rattle.shared_fib.proofs.CommandSteps.{synchronized_later}
use Rattle.shared_fib.proofs.synchronize.synchronize_by.Goals as goal

pub returns-clause-started : goal.returns-clause-started
returns-clause-started g c =
    let v : View = c.args.seat.now.view in
    let w : View = c.seat-1.given.0.view in
    let sees : OnlySees v w = search rules in
    let checked = looked v w sees c.steps_are_lawful.ensures.checked in
    let came : OnOk c.start_and_check-came.result (Synchronizes v.initial.workers v.initial.token v.writer_steps w.writer_steps) = search rules in
    on_ok_weaker c.start_and_check-came.result (λ h. (synchronize_checked v w sees h checked).started) came

pub returns-clause-checked : goal.returns-clause-checked
returns-clause-checked g c =
    let v : View = c.args.seat.now.view in
    let w : View = c.seat-1.given.0.view in
    let sees : OnlySees v w = search rules in
    let checked = looked v w sees c.steps_are_lawful.ensures.checked in
    let came : OnOk c.start_and_check-came.result (Synchronizes v.initial.workers v.initial.token v.writer_steps w.writer_steps) = search rules in
    on_ok_weaker c.start_and_check-came.result (λ h. (synchronize_checked v w sees h checked).checked) came

pub returns-clause-later : goal.returns-clause-later
returns-clause-later g c =
    let v : View = c.args.seat.now.view in
    let w : View = c.seat-1.given.0.view in
    let came : OnOk c.start_and_check-came.result (Synchronizes v.initial.workers v.initial.token v.writer_steps w.writer_steps) = search rules in
    let untouched : OnErr c.start_and_check-came.result (w ≡ v) = search rules in
    synchronized_later v.initial.workers v.initial.token v w c.start_and_check-came.result untouched came
