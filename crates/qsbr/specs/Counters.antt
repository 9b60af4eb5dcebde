-- Meaning: the readers' counters, and the check of a token over them (DPDK Programmer's Guide,
-- "RCU Library": a reader's counter is 0 while it is offline, and else the token of its last
-- quiescent state; the readers have left a token behind when each counter is 0 or at least that
-- token).
use Rattle.std.specs.Prelude.{ℕ, List, slice_set, ◌≡◌, ◌≤◌, ◌<◌, ◌⊎◌, length, slice_index, EachIndex, Result, MatchResult}
use Rattle.lpm_limits.specs.declared.busy.Busy.{Busy}

-- What a contract sees of a domain (DPDK Programmer's Guide, "RCU Library": the QS variable).

-- the newest token, and the counter of each worker
pub record Registry : Type 0 where
  pub token : ℕ
  pub counters : List ℕ

-- the domain with this counter for the worker
abbrev pub with_counter : Registry → ℕ → ℕ → Registry
with_counter d w counter = record d { counters = slice_set d.counters w counter }

-- the worker is online
abbrev pub IsOnline : List ℕ → ℕ → Type 0
IsOnline counters w = 0 < slice_index counters w

-- a worker of this counter is offline, or has reported since the token was started
abbrev pub IsPast : ℕ → ℕ → Type 0
IsPast token counter = (counter ≡ 0) ⊎ (token ≤ counter)

-- every worker has left the token behind
abbrev pub Passes : ℕ → List ℕ → Type 0
Passes token counters = EachIndex counters (λ w. IsPast token (slice_index counters w))

-- the worker is online, and hasn't reported since the token was started
pub record IsHolding (token : ℕ) (counters : List ℕ) (w : ℕ) : Type 0 where
  pub registered : w < length counters
  pub online : IsOnline counters w
  pub behind : slice_index counters w < token

-- it is the first such worker
pub record IsFirstHolding (token : ℕ) (counters : List ℕ) (w : ℕ) : Type 0 where
  pub holds : IsHolding token counters w
  pub first : (v : ℕ) → v < w → IsPast token (slice_index counters v)

-- a check of the token gives this answer: the token passes, or the first worker that holds it and
-- that worker's counter
abbrev pub IsChecked : ℕ → List ℕ → Result (Unit {0}) Busy → Type 0
IsChecked token counters r = MatchResult r (λ _. Passes token counters)
    (λ busy. IsFirstHolding token counters busy.worker
    × (busy.counter ≡ slice_index counters busy.worker))
