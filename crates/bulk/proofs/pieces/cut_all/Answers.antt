use Rattle.std.proofs.Common.{ℕ, List, ◌∷◌, [], ◌++◌, map, sym, ap, ap₂, ◌∙◌, zero-add, rules}
use Rattle.std.proofs.lemmas.List.{map-append}
use Rattle.std.proofs.lemmas.List.FromFn.{map-range_with_len_more}
use Rattle.bulk.specs.declared.pieces.Piece.{Piece}
use Rattle.bulk.specs.Pieces.{piece_of}
use Rattle.bulk.proofs.pieces.cut_all.Goals as goal

pub loop-number-preserved : goal.loop-number-preserved
loop-number-preserved c =
    let addrs_of : Piece → List ℕ = λ p. p.addrs.now in
    let k = c.loop-number.number in
    let more = map-range_with_len_more (piece_of c.args.addrs.now c.args.workers) 0 k k (zero-add k) in
    let one = ap (λ (l : List ℕ). l ∷ []) c.in_ok-cut_piece.ensures in
    ap (map addrs_of) c.in_ok-push.ensures.items
    ∙ (map-append addrs_of c.loop-number.pieces.items _
    ∙ (ap₂ (λ (a b : List (List ℕ)). a ++ b) c.loop-number.invariant one ∙ sym more))

pub returns : goal.returns
returns c = search rules
