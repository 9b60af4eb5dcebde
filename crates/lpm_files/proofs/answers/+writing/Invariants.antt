use Rattle.std.proofs.Common.{◌+◌, ◌*◌}
use Rattle.lpm_files.proofs.answers.+writing.Given as goal

abbrev pub decreases-join+arg2 : goal.decreases-join+arg2
decreases-join+arg2 g l = 2 * l.few + 1

abbrev pub decreases-join+arg3 : goal.decreases-join+arg3
decreases-join+arg3 g l = 2 * l.more + 1

abbrev pub decreases-answers_text_on : goal.decreases-answers_text_on
decreases-answers_text_on g l = 2 * l.threads
