use Rattle.std.proofs.Common.{◌+◌, ◌≤◌, List, Option, length, take, vec_len, vec_capacity, length-append, ap, ◌∙◌, arith, rules}
use Rattle.std.specs.List.{flat_map}
use Rattle.std.proofs.lemmas.List.Folds.{length-flat_map-take}
use Rattle.lpm_bits.specs.declared.Hop.{Hop}
use Rattle.bulk.specs.declared.pieces.Piece.{Piece}
use Rattle.bulk.proofs.pieces.join.Goals as goal

pub unreachable-requires : goal.unreachable-requires
unreachable-requires c =
    let hops_of : Piece → List (Option Hop) = λ p. p.hops.items in
    let i = c.loop-piece.piece-index in
    let most = length-flat_map-take hops_of c.args.pieces.now i c.piece-item.result (omega arith) in
    let so_far = ap length c.loop-piece.invariant.items ∙ length-append c.args.joined.now.items (flat_map hops_of (take i c.args.pieces.now)) in
    let here = ap length c.deref.ensures.value ∙ ap (λ p. length (hops_of p)) c.piece-item.is in
    let room : vec_len c.loop-piece.joined + length c.deref.result.now ≤ vec_capacity c.loop-piece.joined = omega arith in
    search rules
