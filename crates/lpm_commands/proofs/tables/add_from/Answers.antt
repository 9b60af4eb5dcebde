use Rattle.std.proofs.Common.{◌∙◌, arith, refl, subst, ◌<◌, length, Ok}
use Rattle.lpm_limits.specs.declared.config.Config.{Config}
use Rattle.fib_model.specs.Outcomes.{Adds}
use Rattle.fib_model.specs.Counters.{counter_transitions}
use Rattle.lpm_commands.proofs.Texts.{take_read, loaded_more, first_refused, refused_ends}
use Rattle.lpm_commands.proofs.tables.add_from.Goals as goal

pub loop-index-preserved : goal.loop-index-preserved
loop-index-preserved c =
    let limits = c.args.table.now.config in
    let r = c.index-routes-index.result in
    let within : c.loop-index.index < length c.args.routes.now = omega arith in
    let config = c.loop-index.invariant.config in
    let adds = subst (λ (x : Config). Adds counter_transitions 24 8 x c.loop-index.table.table r.prefix r.hop (Ok c.in-Ok.field-0) c.add.new.self.table) config c.in-Ok.ensures.adds in
    record {
      config = c.in-Ok.ensures.config ∙ config;
      loaded = rw (take_read c.args.routes.now c.loop-index.index r within c.index-routes-index.is) (loaded_more limits _ _ _ r c.in-Ok.field-0 c.loop-index.invariant.loaded adds);
    }

pub returns-in-Err-clause-failure : goal.returns-in-Err-clause-failure
returns-in-Err-clause-failure c =
    refused_ends _ _ _ _ _ _ c.refused.ensures.memory c.refused.ensures.other (λ reason.
    (refl, first_refused c.args.table.now.config c.args.routes.now c.loop-index.index c.index-routes-index.result _ _ _ _ (omega arith) c.index-routes-index.is c.loop-index.invariant.config c.loop-index.invariant.loaded reason c.in-Err.ensures.adds))
