use Rattle.std.proofs.Common.{ℕ, ◌≡◌, ◌<◌, ◌≤◌, length, ap, ◌∙◌, sym, subst}
use Rattle.std.specs.Prelude.{All}
use Rattle.lpm_trace.specs.Writer.{passed_after}
use Rattle.fib_model.specs.Outcomes.{Frees}
use Rattle.shared_fib.specs.RunningTable.{Identity, WriterState, by_steps, initial_state, steps_of}
use Rattle.storm.proofs.Logs.{emptied}
use Rattle.storm.proofs.results.settle.Goals as goal

pub returns-clause-settles : goal.returns-clause-settles
unfolding by_steps
returns-clause-settles g c =
    let id = c.args.table.now in
    let passed = c.synchronize.new.self in
    let told = c.in_ok-synchronize.ensures in
    let limbo = c.counts-waiting.ensures.limbo ∙ ap (λ (w : WriterState). length w.table.limbo) told.same in
    let own : passed.identity ≡ id = ap (λ (w : WriterState). w.identity) told.same ∙ c.requires.own in
    let queued = subst (λ (i : Identity). All (λ token. token ≤ passed_after i.initial.workers (steps_of passed)) passed.table.limbo)
    own (told.queued c.requires.some) in
    let some : 0 < (initial_state id).workers = subst (λ (n : ℕ). 0 < n) (sym c.requires.workers) c.requires.some in
    let all = subst (λ (n : ℕ). Frees (by_steps id.initial) passed.table n c.reclaim.result c.reclaim.new.self.table)
    c.counts-waiting.ensures.limbo c.reclaim.ensures.frees in
    record {
      passed = passed;
      reclaimed = c.reclaim.result;
      synchronizes = told.synchronizes;
      same = told.same;
      frees = subst (λ (n : ℕ). Frees (by_steps id.initial) passed.table n c.reclaim.result c.reclaim.new.self.table)
          limbo c.reclaim.ensures.frees;
      identity = c.reclaim.ensures.own ∙ own;
      config = c.reclaim.ensures.config ∙ ap (λ (w : WriterState). w.config) told.same;
      rests = c.table_rests.ensures;
      emptied = emptied (initial_state id) some passed.table c.reclaim.new.self.table c.reclaim.result queued all;
    }
