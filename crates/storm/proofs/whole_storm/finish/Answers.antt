use Rattle.std.proofs.Common.{arith, lit<, refl, ℕ, ◌≡◌, ◌+◌, ◌*◌, ◌^◌, ◌<◌, ◌≤◌, ◌∙◌, ◌++◌, List, length, map, drop, get_or, ap, sym, subst}
use Rattle.lpm_limits.specs.declared.config.Config.{Config}
use Rattle.lpm_rules.specs.RuleMap.{RuleMap, rules_of}
use Rattle.lpm_rules.specs.declared.Answer.{Answer}
use Rattle.lpm_rules.specs.declared.Change.{Change}
use Rattle.shared_fib.specs.RunningTable.{WriterState, steps_of, token_of}
use Rattle.audit.specs.Wrong.{AreWrong, version_of}
use Rattle.fib_model.specs.declared.orders.Outcome.{Outcome}
use Rattle.std.proofs.lemmas.List.{length-map}
use Rattle.storm.specs.Writer.{HasVersions, addition_of, changes_by, refused_among}
use Rattle.storm.specs.Workers.{answers_of_passes, answers_of_workers, times}
use Rattle.storm.specs.declared.workers.Worker.{Worker}
use Rattle.storm.specs.Storm.{Settles}
use Rattle.storm.proofs.PassAnswers.{addresses_of, all_held, all_looked, all_of_addresses, all_right, all_times, count_all}
use Rattle.storm.proofs.Versions.{changes_behind, changes_within, first_version, none_wrong, rules_within, settled_versions}
use Rattle.storm.proofs.Meetings.{of_workers, passes_of}
use Rattle.storm.proofs.whole_storm.finish.Goals as goal

pub returns-in_default-clause-failure : goal.returns-in_default-clause-failure
returns-in_default-clause-failure g c =
    let writer = c.args.recorder.now.writer in
    let tokens = subst (λ (w : WriterState). 2 ^ 62 < token_of w + w.config.groups) c.meet_all.ensures.same c.in_default.ensures.exhausted in
    record {
      id = c.args.table.now;
      outcomes = c.args.recorder.now.outcomes.items;
      last = writer;
      made = c.requires.made;
      tokens = subst (λ (k : Config). 2 ^ 62 < token_of writer + k.groups) c.requires.made.made.limits tokens;
    }

pub count_wrong_answers-requires-after_bounds : goal.count_wrong_answers-requires-after_bounds
count_wrong_answers-requires-after_bounds g c κs within =
    let plan = c.args.plan.now in
    let workers = c.meet_all.new.workers in
    let inside = λ (a : ℕ). a < 2 ^ (g.row.FIRST + g.row.SECOND) in
    let steps = steps_of c.args.recorder.now.writer in
    let answered = c.meet_all.ensures.answered in
    let many = count_all c.args.table.now plan.addrs.now plan.rounds steps workers answered in
    let as_many : length workers ≡ plan.config.workers = c.meet_all.ensures.len ∙ c.requires.len in
    let changes : List (Change g.row.FIRST g.row.SECOND) = changes_by plan.orders.now c.args.recorder.now.outcomes.items in
    let whole : c.deref-2.result.now ≡ map addition_of plan.rules.now ++ changes =
    c.deref-2.ensures.value ∙ c.in_ok-history.ensures
    ∙ ap (λ (os : List Outcome). map addition_of plan.rules.now ++ changes_by plan.orders.now os) c.deref.ensures.value in
    let behind : length plan.rules.now ≤ length c.deref-2.result.now =
    subst (λ (h : List (Change g.row.FIRST g.row.SECOND)). length plan.rules.now ≤ length h) (sym whole)
    (rules_within g.row.FIRST g.row.SECOND plan.rules.now changes) in
    let all = subst (λ (n : ℕ). length (answers_of_workers workers) ≡ n * (plan.rounds * length plan.addrs.now)) as_many many in (
      lit< tt,
      (
        behind,
        (
          λ k d below. all_of_addresses inside (get_or workers k d).answers.items (times plan.rounds plan.addrs.now)
              (addresses_of c.args.table.now plan.addrs.now plan.rounds steps (get_or workers k d) (answered k d below))
              (all_times inside plan.rounds plan.addrs.now c.requires.addrs),
          omega (arith, all, c.requires.answers),
        ),
      ),
    )

pub returns-clause-storm : goal.returns-clause-storm
returns-clause-storm g c =
    let f = g.row.FIRST in
    let s = g.row.SECOND in
    let plan = c.args.plan.now in
    let id = c.args.table.now in
    let workers = c.meet_all.new.workers in
    let writer = c.args.recorder.now.writer in
    let outcomes = c.args.recorder.now.outcomes.items in
    let steps = steps_of writer in
    let answered = c.meet_all.ensures.answered in
    let as_many : length workers ≡ plan.config.workers = c.meet_all.ensures.len ∙ c.requires.len in
    let held = all_held id plan.addrs.now plan.rounds steps workers answered in
    let changes : List (Change f s) = changes_by plan.orders.now outcomes in
    let rules = plan.rules.now in
    let R : RuleMap = rules_of rules in
    let whole : c.deref-2.result.now ≡ map addition_of rules ++ changes =
    c.deref-2.ensures.value ∙ c.in_ok-history.ensures
    ∙ ap (λ (os : List Outcome). map addition_of rules ++ changes_by plan.orders.now os) c.deref.ensures.value in
    let counted_so = subst (λ (h : List (Change f s)). AreWrong (version_of h (length rules)) (drop (length rules) h) (answers_of_workers workers) c.in_ok-wrong.wrong)
    whole c.in_ok-wrong.ensures in
    let wrong = subst (λ (z : RuleMap × List (Change f s)). AreWrong z.0 z.1 (answers_of_workers workers) c.in_ok-wrong.wrong)
    (λ i. (first_version f s rules changes i, changes_behind f s rules changes i)) counted_so in
    let made = c.requires.made.made in
    let versions = subst (λ (Q : RuleMap). HasVersions Q writer changes) c.requires.made.rules made.versions in
    let looked = all_looked id plan.addrs.now plan.rounds steps workers answered in
    let right = all_right id plan.addrs.now plan.rounds steps f s R writer changes (passes_of workers) made.opened.widths made.identity versions refl looked in
    let counted = subst (λ (xs : List (ℕ × Answer)). AreWrong R changes xs c.in_ok-wrong.wrong) held wrong in
    let settled = subst (λ (w : WriterState). Settles id w c.settle.new.writer) c.meet_all.ensures.same c.in-Ok.ensures.settles in
    record {
      id = id;
      outcomes = outcomes;
      last = writer;
      end = c.settle.new.writer;
      passes = passes_of workers;
      made = c.requires.made;
      count = length-map workers (λ (w : Worker). w.pass) ∙ as_many;
      workers = of_workers workers c.meet_all.ensures.seats;
      looked = looked;
      right = right;
      settles = settled;
      answered = c.requires.answers.0;
      refused = c.count_refused.ensures ∙ ap refused_among c.deref-3.ensures.value;
      versions = c.report_of.ensures.counts.versions ∙ settled_versions id writer c.settle.new.writer settled ∙ versions.count;
      counted = counted;
      wrong = none_wrong f s R changes (answers_of_passes (passes_of workers)) c.in_ok-wrong.wrong right counted;
      limbo = c.report_of.ensures.counts.limbo ∙ ap (λ (l : List ℕ). length l) settled.emptied;
      counts = c.report_of.ensures.counts;
    }

pub returns-clause-wrong : goal.returns-clause-wrong
returns-clause-wrong g c = (returns-clause-storm g c).wrong

pub returns-clause-versions : goal.returns-clause-versions
returns-clause-versions g c =
    let storm = returns-clause-storm g c in
    let most = changes_within g.row.FIRST g.row.SECOND c.args.plan.now.orders.now storm.outcomes in
    omega (arith, storm.versions, most)

pub returns-clause-limbo : goal.returns-clause-limbo
returns-clause-limbo g c = (returns-clause-storm g c).limbo
