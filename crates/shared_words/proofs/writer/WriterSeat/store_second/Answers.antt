use Rattle.std.proofs.Common.{◌∙◌, ap, refl, arith, rules}
use Rattle.std.proofs.lemmas.Grind.{common_steps}
use Rattle.shared_words.specs.Seats.{WordsAt}
use Rattle.shared_words.proofs.WorkerSteps.{looks, second_inside, writer_inside}
use Rattle.shared_words.proofs.WriterRule.{second_allowed}
use Rattle.shared_words.proofs.writer.WriterSeat.store_second.Goals as goal

pub second_at-at-requires : goal.second_at-at-requires
second_at-at-requires g c =
    let own = c.requires.own in
    let layout = ap (λ (w : WordsAt). w.layout.firsts) c.table.view_is in
    omega (arith, layout, second_inside own refl c.requires.may refl, own.words, own.low)

pub load-found-requires : goal.load-found-requires
load-found-requires g c =
    looks c.self.invariant.role c.table.view_is c.self.view_is c.requires.own
    (λ own. second_inside own c.self.view_is c.requires.may c.second_at-at.ensures)

pub store_as-requires-clause-own : goal.store_as-requires-clause-own
store_as-requires-clause-own g c =
    let own = writer_inside c.table.view_is c.self.view_is c.requires.own in
    (c.load-found.ensures.0 ∙ own.same, second_inside own c.self.view_is c.requires.may c.second_at-at.ensures)

pub store_as-requires-clause-allowed : goal.store_as-requires-clause-allowed
store_as-requires-clause-allowed g c =
    second_allowed _ _ _ _ _ (search rules) c.args.j c.args.word _ (search rules)
    c.with_half-shared.ensures.stored (grind (arith, common_steps)) (search rules)
