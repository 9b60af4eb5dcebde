use Rattle.std.proofs.Common.{arith, rules}
use Rattle.shared_words.proofs.WorkerSteps.{looks}
use Rattle.shared_words.proofs.writer.WriterSeat.stored_token.Goals as goal

pub load-requires : goal.load-requires
load-requires g c =
    looks c.self.invariant.role c.table.view_is c.self.view_is c.requires.own (λ own. omega (arith, own.words))

pub returns-clause-value : goal.returns-clause-value
returns-clause-value c = search rules
