-- Meaning: the calls of a running table, by the status that they answer (DPDK Programmer's Guide, "LPM Library" and
-- "RCU Library").
use Rattle.std.specs.Prelude.{Bool, List, Option, refl, ℕ, ℤ, ⊤, ◌≡◌, ◌≢◌, ◌-◌, ◌^◌, ◌≤◌, ◌<◌, ◌⊎◌, true, false, pos, [], ◌∷◌, Some, None, Result, length, map, slice_get, slice_set, take}
use Rattle.std.specs.Coded.{Coded, code_by, coded×, coded_bool, coded_list, coded_option}
use Rattle.shared_fib.specs.RunningTable.{WriterState, coded_writer, Rests, by_steps, hop_or, initial_writer, initial_state, steps_of, token_of}
use Rattle.shared_fib.specs.Passes.{PassState, coded_pass, IsBenchOf, IsFullBench, IsPassOf, IsPutBack, LooksUp, Makes}
use Rattle.std.specs.FinMap.{empty}
use Rattle.lpm_bits.specs.Network.{prefix_of}
use Rattle.lpm_rules.specs.RuleMap.{RuleMap}
use Rattle.lpm_rules.specs.declared.Put.{Put}
use Rattle.lpm_limits.specs.Limits.{IsConfig}
use Rattle.lpm_limits.specs.declared.config.Config.{Config}
use Rattle.lpm_limits.specs.declared.busy.Busy.{Busy}
use Rattle.lpm_limits.specs.declared.refusal.Refusal.{Refusal}
use Rattle.defer_queue.specs.declared.Reclaimed.{Reclaimed}
use Rattle.fib_model.specs.Outcomes.{groups_in_use}
use Rattle.lpm_trace.specs.declared.step.WorkerStep.{WorkerStep}
use Rattle.lpm_trace.specs.declared.step.WorkerStep.TheVariants.{LoadOnline, StoreOnline, LoadQuiescent, StoreQuiescent, StoreOffline}
use Rattle.lpm_writer.specs.Rest.{blank_initial_state}
use Rattle.shared_fib.specs.FreedGroups.{TakesLeast, FreesChecked}
use Rattle.shared_fib.specs.Bursts.{LooksUpBurst, greatest, least}
use Rattle.shared_words.specs.Rule.{IsLater}
use Rattle.saxiko_c.specs.Status.{OpensIt, success, no_memory, busy, invalid, not_permitted, already, add_status, status_of}
use Rattle.saxiko_c.specs.Table.{IsBad, IsCounted, IsUnopened, Stores, Tells}
use Rattle.saxiko_c.specs.declared.records.SaxikoCounts.{SaxikoCounts}
use Rattle.saxiko_c.specs.declared.records.SaxikoHeld.{SaxikoHeld}
use Rattle.saxiko_c.specs.declared.records.SaxikoSpan.{SaxikoSpan}
use Rattle.fib_model.specs.Outcomes as outcomes

-- The owner of a running table, as its callers see it (this project's).

-- its writer, whether a grace period lasts, and the passes that no reader has, by their numbers
pub record StagedOwner : Type 0 where
  pub writer : WriterState
  pub waits : Bool
  pub bench : List (Option PassState)

abbrev pub coded_owner : Coded StagedOwner
coded_owner = code_by (WriterState × (Bool × List (Option PassState)))
    (coded× coded_writer (coded× coded_bool (coded_list (coded_option coded_pass))))
    (λ o. (o.writer, (o.waits, o.bench))) (λ p. record { writer = p.0; waits = p.1.0; bench = p.1.1 }) (λ _. refl)

-- ---- the writer

-- a table with these rules as version 0, of which no reader is handed out, and no grace period lasts
pub record IsInitial (c : Config) (R : RuleMap) (o : StagedOwner) : Type 0 where
  pub opened : o.writer ≡ initial_writer o.writer.identity c R
  pub token : o.writer.identity.initial.token ≡ c.first_token
  pub workers : o.writer.identity.initial.workers ≡ c.workers
  pub at_rest : o.waits ≡ false
  pub bench : IsFullBench o.writer.identity o.bench
  pub limits : IsConfig c

-- such a table without rules, the words of which are all misses
abbrev pub IsInitialWithoutRules : Config → StagedOwner → Type 0
IsInitialWithoutRules c o = IsInitial c empty o
    × (initial_state o.writer.identity ≡ blank_initial_state 24 8 c)

-- a closed handle has such a table then; an open one stays as it is
abbrev pub Opens : Config → Option StagedOwner → ℤ → Option StagedOwner → Type 0
Opens c = OpensIt (IsUnopened c) (IsInitialWithoutRules c) ⊤

-- the table's rules alone were changed, by steps that come after the earlier ones, and each group that was
-- freed was checked after it was given up
pub record Changes (o p : StagedOwner) : Type 0 where
  pub own : p.writer.identity ≡ o.writer.identity
  pub config : p.writer.config ≡ o.writer.config
  pub bench : p.bench ≡ o.bench
  pub later : IsLater (steps_of o.writer) (steps_of p.writer)
  pub checked : (freed : List ℕ)
      × FreesChecked o.writer.identity.initial o.writer.table p.writer.table freed

abbrev pub AddsTo : ℕ → ℕ → ℕ → StagedOwner → ℤ → StagedOwner → Type 0
AddsTo addr depth hop o status p =
    (IsBad depth hop × (status ≡ invalid) × (p ≡ o))
    ⊎ ((depth ≤ 32) × (hop < 16777216) × (r : Result Put Refusal)
    × outcomes.Adds (by_steps o.writer.identity.initial) 24 8 o.writer.config o.writer.table
    (prefix_of 32 depth addr) hop r p.writer.table
    × TakesLeast o.writer.identity.initial o.writer.table p.writer.table
    × Changes o p × (status ≡ add_status r))

abbrev pub DeletesFrom : ℕ → ℕ → ℕ → ℕ → StagedOwner → ℤ → StagedOwner → Type 0
DeletesFrom addr depth before after o status p =
    ((32 < depth) × (status ≡ invalid) × (after ≡ before) × (p ≡ o))
    ⊎ ((depth ≤ 32) × (r : Result ℕ Refusal)
    × outcomes.Deletes (by_steps o.writer.identity.initial) 24 8 o.writer.config o.writer.table
    (prefix_of 32 depth addr) r p.writer.table
    × Stores r before after × Changes o p × (status ≡ status_of r))

abbrev pub Flushes : ℕ → ℕ → StagedOwner → ℤ → StagedOwner → Type 0
Flushes before after o status p = (r : Result ℕ Refusal)
    × outcomes.Flushes (by_steps o.writer.identity.initial) 24 8 o.writer.config o.writer.table r p.writer.table
    × Stores r before after × Changes o p × (status ≡ status_of r)

-- the reader that stopped a reclaim is named
abbrev pub Names : Option Busy → SaxikoHeld → ℤ → SaxikoHeld → Type 0
Names None before status after = (status ≡ success) × (after ≡ before)
Names (Some busy) before status after =
    (status ≡ pos 1) × (after ≡ record { reader = busy.worker; counter = busy.counter })

abbrev pub FreesHeld : ℕ → ℕ → SaxikoHeld → SaxikoHeld → StagedOwner → ℤ → StagedOwner → Type 0
FreesHeld max freed before after o status p = (r : Reclaimed)
    × outcomes.Frees (by_steps o.writer.identity.initial) o.writer.table max r p.writer.table
    × FreesChecked o.writer.identity.initial o.writer.table p.writer.table (take r.freed o.writer.table.limbo)
    × IsLater (steps_of o.writer) (steps_of p.writer)
    × (freed ≡ r.freed) × Names r.stopped before status after
    × (p.writer.identity ≡ o.writer.identity) × (p.writer.config ≡ o.writer.config) × (p.bench ≡ o.bench)

-- rules, versions, token and groups are counted, and the table is at rest: by its rules the words answer each
-- address, and each of the writer's steps so far might come after those before it
abbrev pub Counts : SaxikoCounts → StagedOwner → ℤ → Type 0
Counts c o status = (status ≡ success)
    × IsCounted o.writer.table o.writer.config.groups (token_of o.writer) c × Rests o.writer

-- ---- readers

-- the reader of this number was at the bench, and is handed out
pub record IsRegistered (number : ℕ) (o : StagedOwner) (reader : PassState) (p : StagedOwner) : Type 0 where
  pub of : IsPassOf o.writer.identity number reader
  pub was : slice_get o.bench number ≡ Some (Some reader)
  pub handed : p.bench ≡ slice_set o.bench number None
  pub same : p.writer ≡ o.writer
  pub stage : p.waits ≡ o.waits

-- no reader was handed out: EINVAL where there is no such number, EBUSY where it has a reader, and else ENOMEM
abbrev pub IsUnregistered : ℕ → StagedOwner → ℤ → StagedOwner → Type 0
IsUnregistered number o status p = (p ≡ o)
    × (((status ≡ invalid) × (o.writer.identity.initial.workers ≤ number))
    ⊎ (((status ≡ busy) × (slice_get o.bench number ≡ Some None))
    ⊎ ((status ≡ no_memory) × (number < o.writer.identity.initial.workers)
    × ¬ (slice_get o.bench number ≡ Some None))))

-- a closed handle has the reader then
abbrev pub Registers : ℕ → Option StagedOwner → Option PassState → ℤ → Option StagedOwner → Option PassState → Type 0
Registers number None kept status p reader = (status ≡ invalid) × (p ≡ None) × (reader ≡ kept)
Registers number (Some o) (Some kept) status p reader =
    (status ≡ busy) × (p ≡ Some o) × (reader ≡ Some kept)
Registers number (Some o) None status None reader = ⊥
Registers number (Some o) None status (Some p) None = IsUnregistered number o status p
Registers number (Some o) None status (Some p) (Some reader) =
    (status ≡ success) × IsRegistered number o reader p

-- the reader is at the bench then, and those at the bench are offline
abbrev pub GivesBack : PassState → StagedOwner → ℤ → StagedOwner → Type 0
GivesBack reader o status p = (status ≡ success)
    × IsPutBack o.bench reader p.bench
    × IsBenchOf p.writer.identity p.bench
    × (p.writer ≡ o.writer)
    × (p.waits ≡ o.waits)

abbrev pub Unregisters : Option StagedOwner → Option PassState → ℤ → Option StagedOwner → Option PassState → Type 0
Unregisters None kept status p reader = (status ≡ invalid) × (p ≡ None) × (reader ≡ kept)
Unregisters (Some o) None status p reader = (status ≡ invalid) × (p ≡ Some o) × (reader ≡ None)
Unregisters (Some o) (Some kept) status None reader = ⊥
Unregisters (Some o) (Some kept) status (Some p) reader = (reader ≡ None) × GivesBack kept o status p

-- both handles are of one table, where both are open
abbrev pub AreOfOneTable : Option StagedOwner → Option PassState → Type 0
AreOfOneTable (Some o) (Some reader) = reader.table ≡ o.writer.identity
AreOfOneTable None reader = ⊤
AreOfOneTable (Some o) None = ⊤

-- a call of a reader that is online; by another it is EPERM, and nothing changes
abbrev pub Online : (PassState → ℤ → PassState → Type 0) → (unchanged : Type 0) → PassState → ℤ → PassState → Type 0
Online call unchanged p status q =
    ((p.online ≡ false) × (status ≡ not_permitted) × unchanged × (q ≡ p))
    ⊎ ((p.online ≡ true) × call p status q)

-- it is online then, by a load and a store of the same token
abbrev pub Reports : (ℕ → WorkerStep) → (ℕ → WorkerStep) → PassState → ℤ → PassState → Type 0
Reports load store p status q = (status ≡ success) × (q.online ≡ true)
    × (token : ℕ) × (first : ℕ) × (last : ℕ) × Makes ((store token, last) ∷ (load token, first) ∷ []) p q

abbrev pub GoesOnline : PassState → ℤ → PassState → Type 0
GoesOnline p status q =
    ((p.online ≡ true) × (status ≡ already) × (q ≡ p))
    ⊎ ((p.online ≡ false) × Reports LoadOnline StoreOnline p status q)

abbrev pub GoesOffline : PassState → ℤ → PassState → Type 0
GoesOffline = Online (λ p status q. (status ≡ success) × (q.online ≡ false)
    × (place : ℕ) × Makes ((StoreOffline, place) ∷ []) p q) ⊤

abbrev pub Quiesces : PassState → ℤ → PassState → Type 0
Quiesces = Online (Reports LoadQuiescent StoreQuiescent) ⊤

-- the longest rule's next hop in a version that stood while the words were loaded
abbrev pub Finds : ℕ → ℕ → ℕ → PassState → ℤ → PassState → Type 0
Finds addr before after p status q = (lo : ℕ) × (hi : ℕ) × (x : Option ℕ)
    × LooksUp addr x lo hi p q × (q.online ≡ true) × Tells x status before after

abbrev pub FindsIn : ℕ → ℕ → ℕ → PassState → ℤ → PassState → Type 0
FindsIn addr before after = Online (Finds addr before after) (after ≡ before)

-- the same, between the versions that are stored
abbrev pub FindsBetween : ℕ → ℕ → ℕ → SaxikoSpan → PassState → ℤ → PassState → Type 0
FindsBetween addr before after span p status q = (x : Option ℕ)
    × LooksUp addr x span.lo span.hi p q × (q.online ≡ true) × Tells x status before after

abbrev pub FindsWithin : ℕ → ℕ → ℕ → SaxikoSpan → SaxikoSpan → PassState → ℤ → PassState → Type 0
FindsWithin addr before after old span =
    Online (FindsBetween addr before after span) ((after ≡ before) × (span ≡ old))

-- ---- lookups of many addresses

-- each address is looked up, between the versions of the span, and its next hop, or the default, is stored
abbrev pub FindsEach : ℕ → List ℕ → List ℕ → SaxikoSpan → PassState → PassState → Type 0
FindsEach default addrs hops span p q = (found : List (Option ℕ))
    × LooksUpBurst addrs found span.lo span.hi p q × (hops ≡ map (hop_or default) found)

-- a call of a reader with as much room as addresses; with another it is EINVAL, and nothing changes
abbrev pub Fits : List ℕ → List ℕ → (PassState → PassState → Type 0) → (unchanged : Type 0) → PassState → ℤ → PassState
    → Type 0
Fits addrs room find unchanged p status q =
    ((length addrs ≢ length room) × (status ≡ invalid) × unchanged × (q ≡ p))
    ⊎ ((length addrs ≡ length room) × (status ≡ success) × (q.online ≡ true) × find p q)

abbrev pub FindsAllIn : ℕ → List ℕ → List ℕ → List ℕ → PassState → ℤ → PassState → Type 0
FindsAllIn default addrs before after =
    let find : PassState → PassState → Type 0 = λ p q. (span : SaxikoSpan) × FindsEach default addrs after span p q in
    let unchanged : Type 0 = after ≡ before in
    Online (Fits addrs before find unchanged) unchanged

-- the same, and the span is stored, also that of no addresses
abbrev pub FindsAllWithin : ℕ → List ℕ → List ℕ → List ℕ → SaxikoSpan → SaxikoSpan → PassState → ℤ
    → PassState → Type 0
FindsAllWithin default addrs before after old span =
    let unchanged : Type 0 = (after ≡ before) × (span ≡ old) in
    let find : PassState → PassState → Type 0 = λ p q.
    FindsEach default addrs after span p q × (addrs ≡ [] → span ≡ record { lo = least []; hi = greatest [] }) in
    Online (Fits addrs before find unchanged) unchanged
