use Rattle.std.proofs.Common.{◌≡◌, ◌∙◌, List, Option, None, Some}
use Rattle.std.specs.Prelude.{slice_set}
use Rattle.shared_fib.specs.Passes.{PassState}
use Rattle.saxiko.proofs.Owners.{set_back}
use Rattle.saxiko.proofs.reader.reader_of_worker.Goals as goal

pub returns-in-Err-clause-unchanged : goal.returns-in-Err-clause-unchanged
returns-in-Err-clause-unchanged c =
    let pass : PassState = c.in-Ok.pass in
    let old : List (Option PassState) = c.args.bench.now in
    let back = c.unregister.ensures.back in
    let taken = c.in-Ok.ensures.registered in
    let is = c.in-Ok.ensures.pass in
    let same : back.0 ≡ pass = back.3 is.offline in
    back.1 ∙ (λ i. slice_set (taken.1 i) (is.worker i) (Some (same i)))
    ∙ set_back old c.args.worker (Some pass) None taken.0
