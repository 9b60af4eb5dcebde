use Rattle.std.proofs.Common.{ℕ, ◌+◌, ◌^◌, ◌<◌, List, Option, ◌++◌, map, ap, subst, sym, ◌∙◌, lit<, arith}
use Rattle.std.specs.List.{flat_map}
use Rattle.lpm_rules.specs.Longest.{AreLongestHops}
use Rattle.lpm_rules.proofs.Longest.{length-AreLongestHops}
use Rattle.bulk.specs.declared.pieces.Piece.{Piece}
use Rattle.bulk.proofs.PieceAnswers.{as_many_pieces, pieces_within, all_answered}
use Rattle.bulk.proofs.plain.bulk_plain.Goals as goal

abbrev addrs_of : Piece → List ℕ
addrs_of p = p.addrs.now

abbrev hops_of : Piece → List (Option ℕ)
hops_of p = p.hops.items

pub answer_all-requires-after_bounds : goal.answer_all-requires-after_bounds
answer_all-requires-after_bounds g c κs within =
    let xs = c.args.addrs.now in
    let pieces = c.as_mut_slice-slice.result.now in
    let cut = ap (map addrs_of) c.as_mut_slice-slice.ensures.value ∙ c.in_ok-pieces.ensures in
    let many = as_many_pieces addrs_of pieces xs c.args.workers cut in
    (lit< tt, (omega arith, pieces_within addrs_of (λ a. a < 2 ^ (g.row.FIRST + g.row.SECOND)) pieces xs c.args.workers cut c.requires))

pub join-requires : goal.join-requires
join-requires g c =
    let xs = c.args.addrs.now in
    let cut = ap (map addrs_of) c.as_mut_slice-slice.ensures.value ∙ c.in_ok-pieces.ensures in
    let all = all_answered addrs_of hops_of (g.row.FIRST + g.row.SECOND) c.args.fib.now.table.rules c.as_mut_slice-slice.result.now c.answer_all.new.pieces
    xs c.args.workers (omega arith) cut c.answer_all.ensures.len c.answer_all.ensures.answers in
    omega (arith, length-AreLongestHops _ _ _ _ all, c.in_ok-joined.ensures.len, c.in_ok-joined.ensures.exact)

pub returns-clause-answers : goal.returns-clause-answers
returns-clause-answers g c =
    let xs = c.args.addrs.now in
    let cut = ap (map addrs_of) c.as_mut_slice-slice.ensures.value ∙ c.in_ok-pieces.ensures in
    let all = all_answered addrs_of hops_of (g.row.FIRST + g.row.SECOND) c.args.fib.now.table.rules c.as_mut_slice-slice.result.now c.answer_all.new.pieces
    xs c.args.workers (omega arith) cut c.answer_all.ensures.len c.answer_all.ensures.answers in
    let joined = c.join.ensures ∙ ap (λ l. l ++ flat_map hops_of c.answer_all.new.pieces) c.in_ok-joined.ensures.items in
    subst (AreLongestHops (g.row.FIRST + g.row.SECOND) c.args.fib.now.table.rules xs) (sym joined) all
