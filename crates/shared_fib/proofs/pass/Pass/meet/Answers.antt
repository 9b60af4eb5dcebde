use Rattle.std.proofs.Common.{rules, refl}
use Rattle.shared_words.specs.Seats.{WorkerAt}
use Rattle.shared_fib.proofs.Makes.{makes_one}
use Rattle.shared_fib.proofs.pass.Pass.meet.Goals as goal

pub returns-clause-all : goal.returns-clause-all
returns-clause-all c = search rules

pub returns-clause-step : goal.returns-clause-step
returns-clause-step g c =
    let step = c.meet_writer.ensures.step in
    let seat = c.self.inside.seat in
    let told : WorkerAt = record seat { view = record seat.view { heard = c.writer.inside.seat.view.writer_steps } } in
    let one = makes_one c.self.inside.is_online _ _ told c.meet_writer.new.self c.args.self.now c.self.view_is
    c.meet_writer.ensures.own c.meet_writer.ensures.worker (told.view, refl, step.1) in
    (step.0, one.0, one.1)
