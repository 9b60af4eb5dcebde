use Rattle.std.proofs.Common.{rules}
use Rattle.fib.proofs.fib.Fib.report.Goals as goal

pub returns-then-worker-config-clause-reports : goal.returns-then-worker-config-clause-reports
returns-then-worker-config-clause-reports c = search rules
