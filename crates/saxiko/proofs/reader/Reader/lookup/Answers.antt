use Rattle.std.proofs.Common.{rules}
use Rattle.saxiko.proofs.reader.Reader.lookup.Goals as goal

pub returns-clause-answer : goal.returns-clause-answer
returns-clause-answer c = search rules
