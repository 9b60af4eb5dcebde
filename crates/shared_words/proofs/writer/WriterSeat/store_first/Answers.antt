use Rattle.std.proofs.Common.{◌∙◌, rules}
use Rattle.shared_words.proofs.WorkerSteps.{looks, first_inside, writer_inside}
use Rattle.shared_words.proofs.WriterRule.{first_allowed}
use Rattle.shared_words.proofs.writer.WriterSeat.store_first.Goals as goal

pub load-found-requires : goal.load-found-requires
load-found-requires g c =
    looks c.self.invariant.role c.table.view_is c.self.view_is c.requires.own
    (λ own. first_inside own c.self.view_is c.requires.may c.first_at-at.ensures)

pub store_as-requires-clause-own : goal.store_as-requires-clause-own
store_as-requires-clause-own g c =
    let own = writer_inside c.table.view_is c.self.view_is c.requires.own in
    (c.load-found.ensures.0 ∙ own.same, first_inside own c.self.view_is c.requires.may c.first_at-at.ensures)

pub store_as-requires-clause-allowed : goal.store_as-requires-clause-allowed
store_as-requires-clause-allowed g c =
    first_allowed _ _ _ _ _ (search rules) c.args.i c.args.word _ c.first_at-at.ensures
    c.with_half-shared.ensures.stored (search rules) (search rules)
