use Rattle.std.proofs.Common.{◌≡◌, sym, subst, ◌∙◌, List, Option, Some}
use Rattle.std.specs.Prelude.{slice_set}
use Rattle.shared_fib.specs.Passes.{PassState, IsBenchOf}
use Rattle.shared_fib.proofs.Seats.{put_back}
use Rattle.shared_fib.proofs.bench.Bench.unregister.Goals as goal

pub returns-clause-own : goal.returns-clause-own
returns-clause-own g c =
    let p = c.leave.new.self in
    subst (λ (items : List (Option PassState)). IsBenchOf c.args.table.now (slice_set items c.worker_number-worker.result (Some p)))
    (sym c.self.view_is)
    (put_back c.args.table.now c.args.self.now c.worker_number-worker.result p c.requires.own (record {
      table = c.leave.ensures.own ∙ c.requires.pass;
      worker = sym c.worker_number-worker.ensures.value;
      offline = c.leave.ensures.offline;
    }))

pub returns-clause-back : goal.returns-clause-back
returns-clause-back g c =
    let p = c.leave.new.self in
    let at : c.worker_number-worker.result ≡ c.args.pass.worker = c.worker_number-worker.ensures.value ∙ c.leave.ensures.worker in (
      p,
      λ i. slice_set (c.self.view_is i) (at i) (Some p),
      c.leave.ensures.leaves,
      c.leave.ensures.stays,
    )
