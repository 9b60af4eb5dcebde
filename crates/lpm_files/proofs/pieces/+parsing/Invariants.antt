use Rattle.std.proofs.Common.{◌+◌, ◌*◌}
use Rattle.lpm_files.proofs.pieces.+parsing.Given as goal

abbrev pub decreases-join+arg2 : goal.decreases-join+arg2
decreases-join+arg2 g l = 2 * l.few + 1

abbrev pub decreases-join+arg3 : goal.decreases-join+arg3
decreases-join+arg3 g l = 2 * l.more + 1

abbrev pub decreases-parse_on : goal.decreases-parse_on
decreases-parse_on g l = 2 * l.threads
