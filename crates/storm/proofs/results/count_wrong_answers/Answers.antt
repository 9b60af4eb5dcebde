use Rattle.std.proofs.Common.{arith, lit<, ℕ, ◌≡◌, ◌+◌, ◌^◌, ◌<◌, ◌≤◌, ◌∙◌, ◌++◌, All, List, length, take, drop, get_or, ap, sym, subst}
use Rattle.std.proofs.lemmas.List.{take_more}
use Rattle.std.proofs.lemmas.List.Folds.{length-flat_map-take}
use Rattle.lpm_rules.specs.declared.Answer.{Answer}
use Rattle.lpm_rules.specs.declared.Change.{Change}
use Rattle.audit.specs.Wrong.{AreWrong, version_of}
use Rattle.storm.specs.Workers.{answers_of_workers}
use Rattle.storm.specs.declared.workers.Worker.{Worker}
use Rattle.storm.proofs.Versions.{flat_more, wrong_append, wrong_within}
use Rattle.storm.proofs.results.count_wrong_answers.Goals as goal

abbrev answers_of : Worker → List (ℕ × Answer)
answers_of w = w.answers.items

pub count_wrong-requires-after_bounds : goal.count_wrong-requires-after_bounds
count_wrong-requires-after_bounds g c κs within =
    let inside = λ (x : ℕ × Answer). x.0 < 2 ^ (g.row.FIRST + g.row.SECOND) in
    let here = c.requires.addrs c.loop-worker.worker-index c.worker-item.result c.loop-worker-test.true in
    let start = subst (λ (h : List (Change g.row.FIRST g.row.SECOND)). c.args.start ≤ length h) (sym c.in_ok-past.ensures) c.requires.start in
    (lit< tt, (start, subst (All inside) (sym c.deref.ensures.value) (subst (λ (w : Worker). All inside w.answers.items) (sym c.worker-item.is) here)))

pub overflow_add-wrong : goal.overflow_add-wrong
overflow_add-wrong g c =
    let f = g.row.FIRST in
    let s = g.row.SECOND in
    let i = c.loop-worker.worker-index in
    let workers = c.args.workers.now in
    let history = c.args.history.now in
    let R = version_of history c.args.start in
    let changes = drop c.args.start history in
    let so_far = wrong_within f s R changes (answers_of_workers (take i workers)) c.loop-worker.wrong c.loop-worker.invariant in
    let here = wrong_within f s (version_of c.in_ok-past.past c.args.start) (drop c.args.start c.in_ok-past.past) c.deref.result.now c.in_ok-wrong.field-0 c.in_ok-wrong.ensures in
    let own : length c.deref.result.now ≡ length (answers_of (get_or workers i c.worker-item.result)) =
    ap length c.deref.ensures.value ∙ ap (λ (w : Worker). length (answers_of w)) c.worker-item.is in
    let most = length-flat_map-take answers_of workers i c.worker-item.result c.loop-worker-test.true in
    omega (arith, so_far, here, own, most, c.requires.few)

pub loop-worker-preserved : goal.loop-worker-preserved
loop-worker-preserved g c =
    let f = g.row.FIRST in
    let s = g.row.SECOND in
    let i = c.loop-worker.worker-index in
    let workers = c.args.workers.now in
    let history = c.args.history.now in
    let R = version_of history c.args.start in
    let changes = drop c.args.start history in
    let past = subst (λ (h : List (Change f s)). AreWrong (version_of h c.args.start) (drop c.args.start h) c.deref.result.now c.in_ok-wrong.field-0) c.in_ok-past.ensures c.in_ok-wrong.ensures in
    let here = subst (λ (xs : List (ℕ × Answer)). AreWrong R changes xs c.in_ok-wrong.field-0)
    (c.deref.ensures.value ∙ ap answers_of c.worker-item.is) past in
    let both = wrong_append f s R changes (answers_of_workers (take i workers)) (answers_of (get_or workers i c.worker-item.result))
    c.loop-worker.wrong c.in_ok-wrong.field-0 c.loop-worker.invariant here in
    let next : answers_of_workers (take (i + 1) workers) ≡ answers_of_workers (take i workers) ++ answers_of (get_or workers i c.worker-item.result) =
    ap answers_of_workers (take_more workers i c.worker-item.result c.loop-worker-test.true)
    ∙ flat_more answers_of (take i workers) (get_or workers i c.worker-item.result) in
    subst (λ (xs : List (ℕ × Answer)). AreWrong R changes xs (c.loop-worker.wrong + c.in_ok-wrong.field-0)) (sym next) both
