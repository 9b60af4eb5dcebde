use Rattle.std.proofs.Common.{◌∙◌, refl}
use Rattle.lpm_trace.specs.declared.step.WorkerStep.TheVariants.{StoreOffline}
use Rattle.shared_fib.specs.RunningTable.{initial_state}
use Rattle.storm.proofs.PassAnswers.{kept_by_one, told_on}
use Rattle.storm.proofs.workers.work.Goals as goal

pub returns : goal.returns
returns g c =
    let id = c.args.lookups.now.table.now in
    let made = c.look_rounds.new.worker in
    let after = c.offline.new.self in
    let steps = c.offline.ensures.steps in
    let same = kept_by_one StoreOffline steps.0 made.pass after (λ now r. refl) steps.1 in
    let told = told_on (initial_state id) made.pass after made.answers.items same steps.1.writer_steps
    (c.look_rounds.ensures.told.answers, c.look_rounds.ensures.told.versions) in
    record {
      over = record {
        table = c.offline.ensures.own ∙ c.look_rounds.ensures.own ∙ c.online.ensures.own ∙ c.requires.ready.table;
        offline = c.offline.ensures.offline;
        told = record { answers = told.0; versions = told.1 };
        whole = λ done. c.look_rounds.ensures.whole done;
      };
      seat = steps.1.worker ∙ c.look_rounds.ensures.seat ∙ c.online.ensures.steps.3.worker;
    }
