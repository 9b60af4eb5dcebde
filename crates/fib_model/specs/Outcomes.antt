-- Meaning: what comes of each command, and what it leaves (DPDK Programmer's Guide, "LPM
-- Library", "Addition", "Deletion" and the reclaiming of tbl8 groups by RCU; the order of the
-- checks is this project's).
use Rattle.std.specs.Prelude.{ℕ, ◌≡◌, ◌≢◌, ◌+◌, ◌-◌, ◌<◌, ◌≤◌, ◌⊎◌, List, [], ◌∷◌, length, slice_get, Option, Some, None, Ok, Err, Result, IsSomeAnd, MatchOption}
use Rattle.std.specs.FinMap.{get, insert, remove, len, empty}
use Rattle.std.specs.FinSet as set
use Rattle.lpm_bits.specs.Network.{Network}
use Rattle.lpm_rules.specs.RuleMap.{RuleMap}
use Rattle.lpm_rules.specs.Deep.{IsDeepBlock, block_of, deep_blocks}
use Rattle.lpm_rules.specs.declared.Put.{Put}
use Rattle.lpm_rules.specs.declared.Put.TheVariants.{Added, Replaced, Unchanged}
use Rattle.lpm_limits.specs.declared.busy.Busy.{Busy}
use Rattle.lpm_limits.specs.declared.config.Config.{Config}
use Rattle.lpm_limits.specs.declared.refusal.Refusal.{Refusal}
use Rattle.lpm_limits.specs.declared.refusal.Refusal.TheVariants.{TooManyRules, NoSuchRule, Exhausted, NoGroups, Memory}
use Rattle.lpm_limits.specs.declared.refusal.Refusal.TheVariants.{NoSuchWorker, AlreadyOnline, NotOnline}
use Rattle.defer_queue.specs.declared.Reclaimed.{Reclaimed}
use Rattle.fib_model.specs.declared.orders.Order.{Order}
use Rattle.fib_model.specs.declared.orders.Order.TheVariants as order
use Rattle.fib_model.specs.declared.orders.Outcome.{Outcome}
use Rattle.fib_model.specs.declared.orders.Outcome.TheVariants as outcome
use Rattle.fib_model.specs.declared.orders.ReaderReport.{ReaderReport}
use Rattle.fib_model.specs.declared.orders.ReaderReport.TheVariants.{Online, Offline, Quiescent}
use Rattle.fib_model.specs.State.{State, Transitions, ReaderModel, IsExhausted, HasTokens, Reclaims, Unlinks}

-- the number of deep blocks, each of which has a group
abbrev pub groups_in_use : ℕ → ℕ → RuleMap → ℕ
groups_in_use first second R = set.len (deep_blocks first second R)

-- the limits suffice for a table with these rules
abbrev pub AreSufficient : ℕ → ℕ → Config → RuleMap → Type 0
AreSufficient first second c R = (len R ≤ c.rules) × (groups_in_use first second R ≤ c.groups)

-- they don't
abbrev pub AreTooSmall : ℕ → ℕ → Config → RuleMap → Type 0
AreTooSmall first second c R = (c.rules < len R) ⊎ (c.groups < groups_in_use first second R)

-- the rule is new, longer than FIRST bits, its block has no group, and no group is free
pub record LacksGroup {X : Type 0} (first second : ℕ) (c : Config) (s : State X) (p : Network)
    : Type 0 where
  pub absent : get s.rules p ≡ None
  pub long : first < p.len
  pub shallow : ¬ IsDeepBlock first second s.rules (block_of second p)
  pub none_free : c.groups ≤ groups_in_use first second s.rules + length s.limbo

-- a group for a new rule: the front of the limbo list, once its check passed, where none is free
abbrev pub TakesGroup : {X : Type 0} → Transitions X → ℕ → ℕ → Config → State X → Network → List ℕ
    → X → Type 0
TakesGroup t first second c s p left y =
    (LacksGroup first second c s p
    → (u : ℕ) × (s.limbo ≡ u ∷ left) × t.checks s.readers u (Ok tt) y)
    × (¬ LacksGroup first second c s p → (left ≡ s.limbo) × (y ≡ s.readers))

-- the new rule passes the checks before that for a group
abbrev pub IsNew : {X : Type 0} → Transitions X → Config → State X → Network → Type 0
IsNew t c s p = (get s.rules p ≡ None) × HasTokens t c s × (len s.rules < c.rules)

-- the worker that holds the front of the limbo list, by a check of it; none where that is empty
abbrev pub HoldsFront : {X : Type 0} → Transitions X → State X → Option Busy → X → Type 0
HoldsFront t s oldest y = MatchOption oldest ((s.limbo ≡ []) × (y ≡ s.readers))
    (λ busy. (u : ℕ) × (slice_get s.limbo 0 ≡ Some u) × t.checks s.readers u (Err busy) y)

-- an update begins and ends, and unlinks no group
abbrev pub Updates : {X : Type 0} → Transitions X → X → X → Type 0
Updates {X} t x z = (y : X) × t.begins x y × t.ends y z

-- one more update was begun, and R is the rule list that it made
abbrev pub Makes : {X : Type 0} → State X → RuleMap → State X → Type 0
Makes s R z = (z.rules ≡ R) × (z.updates_begun ≡ s.updates_begun + 1)

-- adding rule p with next hop h
abbrev pub Adds : {X : Type 0} → Transitions X → ℕ → ℕ → Config → State X → Network → ℕ
    → Result Put Refusal → State X → Type 0
Adds t first second c s p h (Ok Unchanged) z = (get s.rules p ≡ Some h) × (z ≡ s)
Adds t first second c s p h (Ok Replaced) z = IsSomeAnd (get s.rules p) (λ old. old ≢ h)
    × HasTokens t c s × Updates t s.readers z.readers
    × Makes s (insert s.rules p h) z × (z.limbo ≡ s.limbo)
Adds {X} t first second c s p h (Ok Added) z = IsNew t c s p
    × ((y : X) × TakesGroup t first second c s p z.limbo y × Updates t y z.readers)
    × Makes s (insert s.rules p h) z
Adds t first second c s p h (Err Exhausted) z =
    (get s.rules p ≢ Some h) × IsExhausted t c s × (z ≡ s)
Adds t first second c s p h (Err TooManyRules) z =
    (get s.rules p ≡ None) × HasTokens t c s × (c.rules ≤ len s.rules) × (z ≡ s)
Adds t first second c s p h (Err Memory) z = IsNew t c s p × (z ≡ s)
Adds t first second c s p h (Err (NoGroups oldest)) z =
    IsNew t c s p × LacksGroup first second c s p × HoldsFront t s oldest z.readers
    × (z ≡ record s { readers = z.readers })
Adds t first second c s p h (Err refusal) z = ⊥

-- a change to fewer rules, R: each block that loses its last rule longer than FIRST bits is
-- unlinked
abbrev pub Shrinks : {X : Type 0} → Transitions X → ℕ → ℕ → Config → State X → RuleMap → State X
    → Type 0
Shrinks {X} t first second c s R z = HasTokens t c s
    × ((x : X) × (y : X) × t.begins s.readers x
    × Unlinks t c (groups_in_use first second s.rules - groups_in_use first second R)
    x s.limbo y z.limbo
    × t.ends y z.readers)
    × Makes s R z

-- deleting rule p
abbrev pub Deletes : {X : Type 0} → Transitions X → ℕ → ℕ → Config → State X → Network
    → Result ℕ Refusal → State X → Type 0
Deletes t first second c s p (Ok h) z =
    (get s.rules p ≡ Some h) × Shrinks t first second c s (remove s.rules p) z
Deletes t first second c s p (Err NoSuchRule) z = (get s.rules p ≡ None) × (z ≡ s)
Deletes t first second c s p (Err Exhausted) z =
    (get s.rules p ≢ None) × IsExhausted t c s × (z ≡ s)
Deletes t first second c s p (Err refusal) z = ⊥

-- taking all rules out
abbrev pub Flushes : {X : Type 0} → Transitions X → ℕ → ℕ → Config → State X → Result ℕ Refusal
    → State X → Type 0
Flushes t first second c s (Ok n) z = (n ≡ len s.rules)
    × (n ≡ 0 → z ≡ s) × (0 < n → Shrinks t first second c s empty z)
Flushes t first second c s (Err Exhausted) z = (0 < len s.rules) × IsExhausted t c s × (z ≡ s)
Flushes t first second c s (Err refusal) z = ⊥

-- a reclaim of at most `max`
abbrev pub Frees : {X : Type 0} → Transitions X → State X → ℕ → Reclaimed → State X → Type 0
Frees t s max r z = Reclaims t s.readers max s.limbo r.freed r.stopped z.limbo z.readers
    × (z ≡ record s { readers = z.readers; limbo = z.limbo })

-- the report may be made by this worker
abbrev pub MayReport : {X : Type 0} → ReaderModel X → State X → ReaderReport → ℕ → Type 0
MayReport k s Online w = ¬ k.is_online s.readers w
MayReport k s Offline w = k.is_online s.readers w
MayReport k s Quiescent w = k.is_online s.readers w

-- how a report that may not be made is refused
abbrev pub refusal_of : ReaderReport → Refusal
refusal_of Online = AlreadyOnline
refusal_of Offline = NotOnline
refusal_of Quiescent = NotOnline

-- a report, or its refusal; the number of the worker is tested first
abbrev pub Reports : {X : Type 0} → ReaderModel X → Config → State X → ReaderReport → ℕ → Outcome → State X
    → Type 0
Reports k c s report w outcome.Told z = (w < c.workers) × MayReport k s report w
    × (z ≡ record s { readers = k.after_report report w s.readers })
Reports k c s report w (outcome.Refused NoSuchWorker) z = (c.workers ≤ w) × (z ≡ s)
Reports k c s report w (outcome.Refused refusal) z =
    (w < c.workers) × ¬ MayReport k s report w × (refusal ≡ refusal_of report) × (z ≡ s)
Reports k c s report w other z = ⊥

-- a command came out so, and left z
abbrev pub Does : {X : Type 0} → ReaderModel X → (first second : ℕ) → Config → State X
    → Order first second → Outcome → State X → Type 0
Does k f g c s (order.Add p h) (outcome.Put put) z = Adds k.changes f g c s p h (Ok put) z
Does k f g c s (order.Add p h) (outcome.Refused refusal) z =
    Adds k.changes f g c s p h (Err refusal) z
Does k f g c s (order.Del p) (outcome.Deleted h) z = Deletes k.changes f g c s p (Ok h) z
Does k f g c s (order.Del p) (outcome.Refused refusal) z =
    Deletes k.changes f g c s p (Err refusal) z
Does k f g c s order.Flush (outcome.Flushed n) z = Flushes k.changes f g c s (Ok n) z
Does k f g c s order.Flush (outcome.Refused refusal) z =
    Flushes k.changes f g c s (Err refusal) z
Does k f g c s (order.Reclaim max) (outcome.Reclaimed r) z = Frees k.changes s max r z
Does k f g c s (order.Online w) outcome z = Reports k c s Online w outcome z
Does k f g c s (order.Offline w) outcome z = Reports k c s Offline w outcome z
Does k f g c s (order.Quiescent w) outcome z = Reports k c s Quiescent w outcome z
Does k f g c s other outcome z = ⊥

-- what was done so far, the newest first, and how it came out
abbrev pub Log : ℕ → ℕ → Type 0
Log first second = List (Order first second × Outcome)

-- from `initial` on, the commands of the log came out so one after another, and left z
abbrev pub Runs : {X : Type 0} → ReaderModel X → (first second : ℕ) → Config → State X
    → Log first second → State X → Type 0
Runs k first second c initial [] z = z ≡ initial
Runs {X} k first second c initial (done ∷ log) z = (s : State X)
    × Runs k first second c initial log s × Does k first second c s done.0 done.1 z

-- the log after these commands, in order, and their outcomes
abbrev pub log_after : {first second : ℕ} → Log first second → List (Order first second)
    → List Outcome → Log first second
log_after log [] outcomes = log
log_after log (order ∷ orders) [] = log
log_after log (order ∷ orders) (outcome ∷ outcomes) =
    log_after ((order, outcome) ∷ log) orders outcomes
