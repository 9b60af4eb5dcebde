use Rattle.std.proofs.Common.{arith, rules}
use Rattle.lpm_options.proofs.requests.config_of.Goals as goal

pub returns-in_err-number_of-clause-none : goal.returns-in_err-number_of-clause-none
returns-in_err-number_of-clause-none c = λ _ config limits. c.in_err-number_of.ensures.none (search rules) config.rules limits.rules (omega (arith, limits.in_range.rules.1))

pub returns-in_err-number_of-2-clause-none : goal.returns-in_err-number_of-2-clause-none
returns-in_err-number_of-2-clause-none c = λ _ config limits. c.in_err-number_of-2.ensures.none (search rules) config.groups limits.groups (omega (arith, limits.in_range.groups.1))

pub returns-in_err-number_within-clause-none : goal.returns-in_err-number_within-clause-none
returns-in_err-number_within-clause-none c = λ _ config limits. c.in_err-number_within.ensures.none (search rules) config.workers limits.workers limits.few_workers

pub returns-in_err-number_of-3-clause-none : goal.returns-in_err-number_of-3-clause-none
returns-in_err-number_of-3-clause-none c = λ _ config limits. c.in_err-number_of-3.ensures.none (search rules) config.threshold limits.threshold (omega (arith, limits.in_range.threshold.1))

pub returns-in_err-number_of-4-clause-none : goal.returns-in_err-number_of-4-clause-none
returns-in_err-number_of-4-clause-none c = λ _ config limits. c.in_err-number_of-4.ensures.none (search rules) config.reclaim_max limits.reclaim_max (omega (arith, limits.in_range.reclaim_max.1))
