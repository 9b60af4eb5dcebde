use Rattle.std.proofs.Common.{◌≡◌, ℕ, List, length, get_or, sym, subst, lit<, vec_len}
use denote.Param.Send.{sendable}
use Rattle.bulk.specs.declared.desk.Desk.{Desk}
use Rattle.bulk.specs.Pieces.{piece_of}
use Rattle.bulk.specs.Desks.{IsDeskOf, HasAnswered}
use Rattle.bulk.proofs.running_table.answer_all.Goals as goal

pub for_each_mut-requires-clause-accepts : goal.for_each_mut-requires-clause-accepts
for_each_mut-requires-clause-accepts g c = λ κs within i p lt e.
    let id = c.args.table.now in
    let count : ℕ = length (piece_of c.args.addrs.now (length c.args.desks.now) i) in
    let desk : IsDeskOf id p.now = subst (IsDeskOf id) (sym e) (c.requires.desks i p.now lt) in
    let room : vec_len p.now.hops ≡ count =
    subst (λ (d : Desk). vec_len d.hops ≡ count) (sym e) (c.requires.room i p.now lt) in
    (lit< tt, (lt, (desk, (room, (c.requires.addrs, search sendable depth 20)))))

pub returns-clause-answers : goal.returns-clause-answers
returns-clause-answers g c = λ k d lt.
    let at = (c.for_each_mut.ensures k d lt).1 in
    let old : Desk = get_or c.args.desks.now k d in
    let piece : List ℕ = piece_of c.args.addrs.now (length c.args.desks.now) k in
    subst (λ (y : Desk). HasAnswered piece old y) at.left
    (subst (λ (x : Desk). HasAnswered piece x at.after_call.now) at.argument_is at.call)
