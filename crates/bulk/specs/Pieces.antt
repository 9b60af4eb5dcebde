-- This layer's own: how a list of addresses is cut into pieces (this project's).
use Rattle.std.specs.Prelude.{ℕ, ◌+◌, ◌-◌, ◌*◌, ◌/◌, List, length, map, take, drop}
use Rattle.std.specs.List.{range_with_len}

-- how many of n addresses stand before piece k of w: the quotient of k * n by w
abbrev pub piece_start_before : ℕ → ℕ → ℕ → ℕ
piece_start_before k n w = k * n / w

-- piece k of w: the addresses from its start up to, and not including, the next one
abbrev pub piece_of : List ℕ → ℕ → ℕ → List ℕ
piece_of addrs w k =
    let from = piece_start_before k (length addrs) w in
    let to = piece_start_before (k + 1) (length addrs) w in
    take (to - from) (drop from addrs)

-- the first k of w pieces, in their order
abbrev pub first_pieces : List ℕ → ℕ → ℕ → List (List ℕ)
first_pieces addrs w k = map (piece_of addrs w) (range_with_len 0 k)
