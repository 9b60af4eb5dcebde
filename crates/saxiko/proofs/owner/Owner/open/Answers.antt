use Rattle.std.proofs.Common.{ap, ◌∙◌}
use Rattle.std.specs.Prelude.{IfOk}
use Rattle.std.proofs.lemmas.Result.{IfOk-weaker, IfErr-weaker}
use Rattle.std.specs.FinMap as map
use Rattle.saxiko.specs.Owners.{OwnerState}
use Rattle.shared_fib.specs.RunningTable.{Identity, initial_state}
use Rattle.saxiko.proofs.Owners.{OpensAs, opens_as}
use Rattle.saxiko.proofs.owner.Owner.open.Goals as goal

pub returns : goal.returns
returns c =
    let r = c.in_ok-table in
    let config = c.args.config in
    let made = c.of_opened in
    let As : OwnerState → Type 0 = OpensAs r.table config map.empty in
    let opens : IfOk made.result As = IfOk-weaker made.result _ As
    (λ o is. opens_as r.table config map.empty r.writer r.bench o is r.ensures.opened r.ensures.bench) made.ensures.ok in
    record {
      initial = IfOk-weaker made.result As _ (λ o is. ap initial_state is.identity ∙ r.ensures.initial) opens;
      opened = IfOk-weaker made.result As _ (λ o is. is.writer) opens;
      token = IfOk-weaker made.result As _ (λ o is. ap (λ (i : Identity). i.initial.token) is.identity ∙ r.ensures.token) opens;
      workers = IfOk-weaker made.result As _ (λ o is. ap (λ (i : Identity). i.initial.workers) is.identity ∙ r.ensures.workers) opens;
      bench = IfOk-weaker made.result As _ (λ o is. is.bench) opens;
      limits = IfOk-weaker made.result As _ (λ o is. r.ensures.limits) opens;
      bad_config = IfErr-weaker made.result _ _ (λ error is. (λ bad. cc (bad, is), λ no. absurd (no r.ensures.limits)))
          made.ensures.err;
    }
