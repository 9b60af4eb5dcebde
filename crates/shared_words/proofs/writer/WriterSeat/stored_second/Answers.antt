use Rattle.std.proofs.Common.{arith, ap, rules}
use Rattle.shared_words.specs.Seats.{WordsAt}
use Rattle.shared_words.proofs.WorkerSteps.{looks}
use Rattle.shared_words.proofs.writer.WriterSeat.stored_second.Goals as goal

pub load-requires : goal.load-requires
load-requires g c =
    let low = ap (λ (w : WordsAt). w.layout.seconds) c.table.view_is in
    looks c.self.invariant.role c.table.view_is c.self.view_is c.requires.own
    (λ own. omega (arith, c.second_at-at.ensures, own.words, own.firsts, own.seconds, c.requires.index, low))

pub returns-clause-value : goal.returns-clause-value
returns-clause-value g c = search rules
