use Rattle.std.proofs.Common.{arith, ◌≡◌, ◌≢◌, take}
use Rattle.std.proofs.lemmas.Grind.{common_steps}
use Rattle.std.proofs.lemmas.List.{take_all}
use Rattle.std.proofs.lemmas.List.Elements.{All-more}
use Rattle.lpm_limits.specs.declared.refusal.Refusal.TheVariants.{Memory}
use Rattle.fib_model.specs.declared.orders.Outcome.TheVariants.{Refused}
use Rattle.lpm_commands.proofs.updates.wants_memory.Goals as goal

pub loop-outcome-preserved : goal.loop-outcome-preserved
loop-outcome-preserved c =
    All-more (λ outcome. outcome ≢ Refused Memory) c.args.outcomes.now c.loop-outcome.outcome-index c.outcome-item.result c.loop-outcome-test.true c.loop-outcome.invariant (grind (arith, common_steps))

pub returns : goal.returns
returns c =
    let all : take c.loop-outcome.outcome-index c.args.outcomes.now ≡ c.args.outcomes.now = take_all _ _ (omega arith) in
    λ _. rw all at c.loop-outcome.invariant
