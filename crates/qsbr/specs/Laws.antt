-- This layer's own: laws of the check of a token (DPDK Programmer's Guide, "RCU Library").
use Rattle.std.specs.Prelude.{ℕ, ◌≡◌, ◌≤◌, List}
use Rattle.qsbr.specs.Counters.{Passes, IsHolding, IsFirstHolding}

-- a token that passes lets each older one pass
abbrev pub OlderPasses : Type 0
OlderPasses = (counters : List ℕ) (token older : ℕ)
    → older ≤ token → Passes token counters → Passes older counters

-- where a token passes, no worker holds it
abbrev pub NoneHolds : Type 0
NoneHolds = (counters : List ℕ) (token w : ℕ) → Passes token counters → ¬ IsHolding token counters w

-- at most one worker is the first that holds a token
abbrev pub OneIsFirst : Type 0
OneIsFirst = (counters : List ℕ) (token v w : ℕ)
    → IsFirstHolding token counters v → IsFirstHolding token counters w → v ≡ w
