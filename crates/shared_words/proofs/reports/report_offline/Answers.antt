use Rattle.std.proofs.Common.{rules}
use Rattle.shared_words.proofs.reports.report_offline.Goals as goal

pub returns-clause-steps : goal.returns-clause-steps
returns-clause-steps g c = search rules

pub returns-clause-offline : goal.returns-clause-offline
returns-clause-offline c = search rules
