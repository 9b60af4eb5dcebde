use Rattle.std.proofs.Common.{◌≢◌, subst, List}
use Rattle.std.specs.Prelude.{All}
use Rattle.lpm_limits.specs.declared.refusal.Refusal.TheVariants.{Memory}
use Rattle.fib_model.specs.declared.orders.Outcome.{Outcome}
use Rattle.fib_model.specs.declared.orders.Outcome.TheVariants.{Refused}
use Rattle.lpm_commands.proofs.updates.update.Goals as goal

pub returns-clause-outcomes : goal.returns-clause-outcomes
returns-clause-outcomes c = record {
  all_orders = c.in_ok-outcomes.ensures.as_many;
  had_memory = subst (λ (came : List Outcome). All (λ outcome. outcome ≢ Refused Memory) came) c.deref.ensures.value (c.wants_memory.ensures c.if-wants_memory.false);
  goes_on = c.in_ok-outcomes.ensures.textbook;
}
