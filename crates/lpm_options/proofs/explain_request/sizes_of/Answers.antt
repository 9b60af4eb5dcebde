use Rattle.std.proofs.Common.{arith, rules}
use Rattle.lpm_options.proofs.explain_request.sizes_of.Goals as goal

pub returns-in_err-number_of-clause-none : goal.returns-in_err-number_of-clause-none
returns-in_err-number_of-clause-none c = λ _ config sizes. c.in_err-number_of.ensures.none (search rules) config.rules sizes.rules (omega (arith, sizes.in_range.rules.1))

pub returns-in_err-number_of-2-clause-none : goal.returns-in_err-number_of-2-clause-none
returns-in_err-number_of-2-clause-none c = λ _ config sizes. c.in_err-number_of-2.ensures.none (search rules) config.groups sizes.groups (omega (arith, sizes.in_range.groups.1))
