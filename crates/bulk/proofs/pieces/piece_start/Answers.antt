use Rattle.std.proofs.Common.{rules}
use Rattle.bulk.proofs.pieces.piece_start.Goals as goal

pub returns-clause-exact : goal.returns-clause-exact
returns-clause-exact c = search rules
