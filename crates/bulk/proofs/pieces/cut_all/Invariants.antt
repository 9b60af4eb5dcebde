use Rattle.std.proofs.Common.{◌≡◌, map}
use Rattle.bulk.specs.Pieces.{first_pieces}
use Rattle.bulk.proofs.pieces.cut_all.Given as goal

-- the pieces so far are the first ones
abbrev pub invariant-loop-number : goal.invariant-loop-number
invariant-loop-number l = map (λ p. p.addrs.now) l.pieces.items ≡ first_pieces l.addrs l.workers l.number
