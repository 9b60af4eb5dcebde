use Rattle.std.proofs.Common.{◌≡◌, ◌++◌, ◌≤◌, take, vec_capacity}
use Rattle.std.specs.List.{flat_map}
use Rattle.bulk.proofs.pieces.join.Given as goal

-- the hops of the pieces so far stand behind what stood there, and the room has not shrunk
abbrev pub invariant-loop-piece : goal.invariant-loop-piece
invariant-loop-piece l = record {
  items : l.joined.items ≡ l.initial.joined.items ++ flat_map (λ p. p.hops.items) (take l.piece-index l.pieces);
  capacity : vec_capacity l.initial.joined ≤ vec_capacity l.joined;
}
