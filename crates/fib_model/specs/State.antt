-- Meaning: what the outcome of a command depends on, for any way to keep the readers' reports
-- (DPDK Programmer's Guide, "LPM Library" and "RCU Library").
use Rattle.std.specs.Prelude.{ℕ, ◌≡◌, ◌+◌, ◌^◌, ◌<◌, ◌≤◌, ◌⊎◌, List, Result, Ok, Err, zero, suc, [], ◌∷◌, ◌++◌, length, Option}
use Rattle.lpm_limits.specs.declared.busy.Busy.{Busy}
use Rattle.lpm_limits.specs.declared.config.Config.{Config}
use Rattle.std.specs.FinMap.{empty}
use Rattle.lpm_rules.specs.RuleMap.{RuleMap}
use Rattle.fib_model.specs.declared.orders.ReaderReport.{ReaderReport}
use Rattle.defer_queue.specs.Reclaims as queue

-- the rules, what the readers reported (as an X), the unlinkings that wait, from the oldest to the
-- newest, each by its name, and the number of updates begun
pub record State (X : Type 0) : Type 0 where
  pub rules : RuleMap
  pub readers : X
  pub limbo : List ℕ
  pub updates_begun : ℕ

-- no rules, nothing waits and no update was begun; this is kept of the readers
abbrev pub initial_with : {X : Type 0} → X → State X
initial_with readers = record { rules = empty; readers = readers; limbo = []; updates_begun = 0 }

-- a way to keep what a change depends on: each part of a change leads from what is kept to what is
-- kept then
pub record Transitions (X : Type 0) : Type 1 where
  -- a check of the unlinking of this name passes, or tells a worker that holds it
  pub checks : X → ℕ → Result (Unit {0}) Busy → X → Type 0
  -- an update begins; a group is unlinked next in it, under this name; the update ends
  pub begins : X → X → Type 0
  pub unlinks : X → ℕ → X → Type 0
  pub ends : X → X → Type 0
  -- the token number
  pub token : X → ℕ

-- a way to keep reports: for changes, and for what the workers report
pub record ReaderModel (X : Type 0) : Type 1 where
  pub changes : Transitions X
  -- whether the worker is online, and what is kept after its report
  pub is_online : X → ℕ → Type 0
  pub after_report : ReaderReport → ℕ → X → X

-- a check that only looks, by who is the first worker that holds an unlinking: it tells that
-- worker, passes where there is none, and leaves what is kept
abbrev pub looks : {X : Type 0} → (X → ℕ → Busy → Type 0) → X → ℕ → Result (Unit {0}) Busy → X
    → Type 0
looks holds x u (Ok passed) z = ((busy : Busy) → ¬ holds x u busy) × (z ≡ x)
looks holds x u (Err busy) z = holds x u busy × (z ≡ x)

-- the tokens or the versions would pass their bound (this project's: 2^62 tokens and 2^61 updates)
abbrev pub IsExhausted : {X : Type 0} → Transitions X → Config → State X → Type 0
IsExhausted t c s = (2 ^ 62 < t.token s.readers + c.groups) ⊎ (2 ^ 61 ≤ s.updates_begun)

abbrev pub HasTokens : {X : Type 0} → Transitions X → Config → State X → Type 0
HasTokens t c s = (t.token s.readers + c.groups ≤ 2 ^ 62) × (s.updates_begun < 2 ^ 61)

-- Limbo lists (Fraser, UCAM-CL-TR-579, 2004, epoch-based reclamation: what was given up waits in
-- limbo until no reader can hold it; DPDK Programmer's Guide, "RCU Library", the defer queue: the
-- oldest is reclaimed first, up to the first that some reader holds, and a queue over its threshold
-- is reclaimed on the way).

-- a reclaim of at most `max` from the limbo list is that of a queue (`defer_queue`), whose items are
-- the names of the unlinkings; to free a group changes nothing of what is kept for the readers' side
abbrev pub Reclaims : {X : Type 0} → Transitions X → X → ℕ → List ℕ → ℕ → Option Busy → List ℕ → X
    → Type 0
Reclaims t x max limbo freed stopped left z =
    queue.Reclaims t.checks (λ y name w. w ≡ y) max limbo x freed stopped left z

-- what is left of the limbo list when one more unlinking is to go last in it
abbrev pub MakesRoom : {X : Type 0} → Transitions X → Config → X → List ℕ → List ℕ → X → Type 0
MakesRoom t c x limbo left z =
    (c.threshold < length limbo → (freed : ℕ) × (stopped : Option Busy)
    × Reclaims t x c.reclaim_max limbo freed stopped left z)
    × (length limbo ≤ c.threshold → (left ≡ limbo) × (z ≡ x))

-- a group is unlinked, and goes last into the limbo list by its name, after room was made there
abbrev pub UnlinksOne : {X : Type 0} → Transitions X → Config → X → List ℕ → X → List ℕ → Type 0
UnlinksOne {X} t c x limbo z limbo' = (name : ℕ) × (y : X) × (left : List ℕ) × t.unlinks x name y
    × MakesRoom t c y limbo left z × (limbo' ≡ left ++ name ∷ [])

-- n groups are unlinked one after another
abbrev pub Unlinks : {X : Type 0} → Transitions X → Config → ℕ → X → List ℕ → X → List ℕ → Type 0
Unlinks t c zero x limbo z limbo' = (z ≡ x) × (limbo' ≡ limbo)
Unlinks {X} t c (suc n) x limbo z limbo' = (mid : X) × (waiting : List ℕ)
    × Unlinks t c n x limbo mid waiting × UnlinksOne t c mid waiting z limbo'
