use Rattle.std.proofs.Common.{inl, inr}
use Rattle.std.proofs.lemmas.Result.{IfErr-weaker}
use Rattle.lpm_commands.proofs.storm_command.text_of_plan.Goals as goal

pub returns-in-Ok-clause-failure : goal.returns-in-Ok-clause-failure
returns-in-Ok-clause-failure g c =
    IfErr-weaker c.text_on_routes.result _ _ (λ e ends. inr (inr (c.in-Ok.ensures.in_range, ends))) c.text_on_routes.ensures.failure

pub returns-in-Err-clause-failure : goal.returns-in-Err-clause-failure
returns-in-Err-clause-failure g c = inr (inl (c.in-Err.error, c.in-Err.ensures.failure, c.storm_ending.ensures))
