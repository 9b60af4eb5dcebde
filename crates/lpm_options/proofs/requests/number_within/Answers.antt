use Rattle.std.proofs.Common.{arith, rules}
use Rattle.lpm_options.proofs.requests.number_within.Goals as goal

pub returns-in_err-number-clause-none : goal.returns-in_err-number-clause-none
returns-in_err-number-clause-none c = λ _ n has few. c.in_err-number.ensures.none (search rules) n has (omega (arith, few.1))
