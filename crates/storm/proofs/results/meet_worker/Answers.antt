use Rattle.std.proofs.Common.{◌∙◌}
use Rattle.shared_fib.specs.RunningTable.{steps_of}
use Rattle.storm.proofs.PassAnswers.{looked_up}
use Rattle.storm.proofs.results.meet_worker.Goals as goal

pub returns-clause-answered : goal.returns-clause-answered
returns-clause-answered g c =
    let over = c.requires.over in
    let step = c.meet.ensures.step in
    let met = looked_up c.args.table.now c.args.addrs.now c.args.rounds (steps_of c.args.writer.now) step.0 step.1
    c.args.worker.now.pass c.meet.new.self c.args.worker.now.answers.items
    step.2 (c.meet.ensures.own ∙ over.table) c.meet.ensures.all c.history_is_sound.ensures (over.told.answers, over.told.versions)
    (over.whole c.requires.done) in
    record { answers = met.0; looked = met.1 }
