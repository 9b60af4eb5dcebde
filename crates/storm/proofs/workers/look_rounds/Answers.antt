use Rattle.std.proofs.Common.{◌≡◌, ◌+◌, ◌∙◌, refl, arith, rules, map}
use Rattle.lpm_trace.specs.declared.step.WorkerStep.TheVariants.{LoadQuiescent, StoreQuiescent}
use Rattle.shared_fib.specs.RunningTable.{initial_state}
use Rattle.storm.specs.Workers.{times}
use Rattle.storm.proofs.PassAnswers.{kept_by_two, told_on, length_rounds, one_more_round}
use Rattle.storm.proofs.workers.look_rounds.Goals as goal

pub loop-round-preserved : goal.loop-round-preserved
loop-round-preserved g c =
    let was = c.loop-round.invariant in
    let id = c.args.lookups.now.table.now in
    let addrs = c.args.lookups.now.addrs.now in
    let made = c.look_once.new.worker in
    let all : map (λ x. x.0) made.answers.items ≡ times (c.loop-round.round + 1) addrs =
    one_more_round c.loop-round.round addrs _ _ was.whole (c.if-not-look_once.ensures.whole refl) in
    let before = made.pass in
    let after = c.quiescent.new.self in
    let steps = c.quiescent.ensures.steps in
    let same = kept_by_two (LoadQuiescent steps.0) (StoreQuiescent steps.0) steps.1 steps.2 before after (λ now r. refl) (λ now r. refl) steps.3 in
    let told = told_on (initial_state id) before after made.answers.items same steps.3.writer_steps
    (c.look_once.ensures.told.answers, c.look_once.ensures.told.versions) in
    record {
      own = c.quiescent.ensures.own ∙ c.look_once.ensures.own ∙ was.own;
      online = c.quiescent.ensures.online;
      seat = steps.3.worker ∙ c.look_once.ensures.seat ∙ was.seat;
      len = let e = length_rounds (c.loop-round.round + 1) addrs made.answers.items all in omega (arith, e);
      told = record { answers = told.0; versions = told.1 };
      whole = all;
      capacity = search rules;
    }
