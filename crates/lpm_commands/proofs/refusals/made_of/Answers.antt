use Rattle.std.proofs.Common.{refl, subst, length, ◌<◌, ◌+◌, ◌^◌, arith}
use Rattle.std.proofs.lemmas.Grind.{common_steps}
use Rattle.lpm_limits.specs.declared.refusal.Refusal.TheVariants.{Exhausted}
use Rattle.route_text.specs.declared.routes.Route.{Route}
use Rattle.lpm_commands.specs.Load.{IsFirstRefused}
use Rattle.lpm_commands.proofs.Texts.{refused_ends}
use Rattle.lpm_commands.proofs.FilledTable.{exhausted_first}
use Rattle.lpm_commands.proofs.refusals.made_of.Goals as goal

pub returns-clause-failure : goal.returns-clause-failure
returns-clause-failure c =
    let some : 0 < length c.args.routes.now = grind (arith, common_steps) in
    let more : 2 ^ 62 < c.args.config.first_token + c.args.config.groups = omega arith in
    refused_ends _ _ _ _ _ _ c.refused.ensures.memory c.refused.ensures.other (λ reason. (
      refl,
      subst (λ (r : Route). IsFirstRefused c.args.config c.args.routes.now r.line Exhausted) c.index-routes-0.is
          (exhausted_first c.args.config c.args.routes.now c.index-routes-0.result some c.index-routes-0.is more),
    ))
