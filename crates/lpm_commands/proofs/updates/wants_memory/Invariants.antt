use Rattle.std.proofs.Common.{◌≢◌, All, take}
use Rattle.lpm_limits.specs.declared.refusal.Refusal.TheVariants.{Memory}
use Rattle.fib_model.specs.declared.orders.Outcome.TheVariants.{Refused}
use Rattle.lpm_commands.proofs.updates.wants_memory.Given as goal

abbrev pub invariant-loop-outcome : goal.invariant-loop-outcome
invariant-loop-outcome l = All (λ outcome. outcome ≢ Refused Memory) (take l.outcome-index l.outcomes)
