use Rattle.std.proofs.Common.{rules}
use Rattle.saxiko.proofs.reader.Reader.lookup4.Goals as goal

pub returns-clause-answers : goal.returns-clause-answers
returns-clause-answers c = search rules
