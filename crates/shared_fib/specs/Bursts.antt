-- Meaning: a burst of addresses that a reader looks up by one call (DPDK Programmer's Guide, "LPM Library":
-- a bulk lookup answers each address of a list; that it is made of lookups of a few addresses each is this
-- project's).
use Rattle.std.specs.Prelude.{ℕ, ◌≡◌, ◌-◌, ◌^◌, List, [], ◌∷◌, ◌++◌, Option, min, max}
use Rattle.shared_fib.specs.Passes.{PassState, LooksUpAll}

-- some addresses that are looked up together, their next hops, and between which versions these lie
pub record Piece : Type 0 where
  pub addrs : List ℕ
  pub hops : List (Option ℕ)
  pub lo : ℕ
  pub hi : ℕ

-- the addresses of the pieces, of which the newest stands first, and their next hops
abbrev pub addrs_of : List Piece → List ℕ
addrs_of [] = []
addrs_of (piece ∷ pieces) = addrs_of pieces ++ piece.addrs

abbrev pub hops_of : List Piece → List (Option ℕ)
hops_of [] = []
hops_of (piece ∷ pieces) = hops_of pieces ++ piece.hops

-- the least and the greatest of the versions between which they lie
abbrev pub least : List Piece → ℕ
least [] = 2 ^ 64 - 1
least (piece ∷ pieces) = min (least pieces) piece.lo

abbrev pub greatest : List Piece → ℕ
greatest [] = 0
greatest (piece ∷ pieces) = max (greatest pieces) piece.hi

-- the pieces are looked up, one directly after the other
abbrev pub LooksUpInTurn : List Piece → PassState → PassState → Type 0
LooksUpInTurn [] p q = q ≡ p
LooksUpInTurn (piece ∷ pieces) p q = (r : PassState)
    × LooksUpInTurn pieces p r × LooksUpAll piece.addrs piece.hops piece.lo piece.hi r q

-- the addresses are looked up in pieces, and their versions lie from `lo` to `hi`
pub record LooksUpBurst (addrs : List ℕ) (hops : List (Option ℕ)) (lo hi : ℕ) (p q : PassState)
    : Type 0 where
  pub pieces : List Piece
  pub addrs_are : addrs ≡ addrs_of pieces
  pub hops_are : hops ≡ hops_of pieces
  pub lo_is : lo ≡ least pieces
  pub hi_is : hi ≡ greatest pieces
  pub steps : LooksUpInTurn pieces p q
