use Rattle.std.proofs.Common.{rules}
use Rattle.lpm_options.proofs.requests.migrate_line.Goals as goal

pub returns-in_err-old : goal.returns-in_err-old
returns-in_err-old c = search rules

pub returns : goal.returns
returns c = search rules
