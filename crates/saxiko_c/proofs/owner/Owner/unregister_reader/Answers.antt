use Rattle.std.proofs.Common.{◌∙◌, ap, sym, List, Option, Some}
use Rattle.std.specs.Prelude.{slice_set}
use Rattle.shared_fib.specs.Passes.{PassState}
use Rattle.saxiko_c.specs.RunningTable.{StagedOwner}
use Rattle.saxiko_c.specs.Stages.{owned_in}
use Rattle.saxiko_c.specs.declared.owner.Owner.TheInside.{Inside}
use Rattle.saxiko_c.specs.declared.stage.Stage.{Stage}
use Rattle.saxiko_c.proofs.owner.Owner.unregister_reader.Goals.{in-AtRest, in-Waiting}
use Rattle.saxiko_c.proofs.owner.Owner.unregister_reader.Goals as goal

pub returns-clause-back : goal.returns-clause-back
returns-clause-back c =
    let was = ap (λ (o : StagedOwner). o.bench) c.self.view_is in
    elim c.match-self.branch [
      | in-AtRest w ↦
          let back = w.unregister.ensures.back in (
            back.0,
            ap (λ (i : Inside). (owned_in i.stage).bench) w.self-inside-is ∙ back.1
                ∙ ap (λ (b : List (Option PassState)). slice_set b c.args.reader.worker (Some back.0))
                (ap (λ (s : Stage). (owned_in s).bench) (sym w.in-AtRest.is) ∙ was),
            back.2,
            back.3,
          )
      | in-Waiting w ↦
          let back = w.unregister-in-Waiting.ensures.back in (
            back.0,
            ap (λ (i : Inside). (owned_in i.stage).bench) w.self-inside-is ∙ back.1
                ∙ ap (λ (b : List (Option PassState)). slice_set b c.args.reader.worker (Some back.0))
                (ap (λ (s : Stage). (owned_in s).bench) (sym w.in-Waiting.is) ∙ was),
            back.2,
            back.3,
          )
    ]
