use Rattle.std.proofs.Common.{◌∙◌, refl, sym, subst}
use Rattle.std.proofs.lemmas.Result.{MatchResult-weaker}
use Rattle.saxiko_c.specs.RunningTable.{IsInitialWithoutRules}
use Rattle.saxiko_c.proofs.Options.{unopened}
use Rattle.saxiko_c.proofs.running_table.open_owner.Goals as goal

pub returns-in-Ok : goal.returns-in-Ok
returns-in-Ok c =
    let known = c.in-Ok.ensures in
    MatchResult-weaker c.boxed.result c.boxed.ensures
    (λ b is. subst (IsInitialWithoutRules c.args.config) (sym (is ∙ c.new.ensures)) (
      record {
        opened = known.opened;
        token = known.token;
        workers = known.workers;
        at_rest = refl;
        bench = known.bench;
        limits = known.limits;
      },
      known.initial,
    ))
    (λ status none. unopened c.args.config status known.limits none)
