use Rattle.std.proofs.Common.{rules}
use Rattle.audit.proofs.answers.fn.expect.map.Goals as goal

pub returns : goal.returns
returns c = search rules
