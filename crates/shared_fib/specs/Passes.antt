-- Meaning: what a pass of a running table shows: the steps that its worker made, what it has seen of the
-- writer's steps, and its lookups (DPDK Programmer's Guide, "RCU Library": each thread registers, comes
-- online and reports; Gupta, Lin and McKeown, INFOCOM 1998, section 3: a lookup reads one word or two).
use Rattle.std.specs.Prelude.{ℕ, ◌≡◌, ◌+◌, ◌≤◌, ◌<◌, Bool, true, false, All, List, [], ◌∷◌, ◌++◌, length, map, slice_get, slice_set, Option, Some, refl}
use Rattle.std.specs.List.{AllPairs}
use Rattle.std.specs.Coded.{Coded, code_by, coded×, coded_ℕ, coded_bool, coded_list}
use Rattle.lpm_cells.specs.Words.{entry_in}
use Rattle.lpm_rules.specs.RuleMap.{RuleMap}
use Rattle.lpm_rules.specs.Longest.{IsLongestHop}
use Rattle.lpm_trace.specs.declared.step.WriterStep.{WriterStep}
use Rattle.lpm_trace.specs.declared.step.WorkerStep.{WorkerStep}
use Rattle.lpm_trace.specs.declared.step.WorkerStep.TheVariants.{BeginLookup, EndLookup, StoreOffline}
use Rattle.lpm_trace.specs.States.{oldest}
use Rattle.lpm_trace.specs.Writer.{IsWritten}
use Rattle.lpm_trace.specs.Trace.{worker_by}
use Rattle.lpm_trace.specs.Laws.{ArePlaced, IsLegalAtPlace}
use Rattle.shared_words.specs.Rule.{IsLater}
use Rattle.shared_words.specs.Deeds.{AddressLookup, IsReadOn, firsts_at, last_at, loads_at, seconds_at}
use Rattle.shared_fib.specs.RunningTable.{Identity, coded_identity, initial_state, phase_by}
use Rattle.shared_fib.specs.Versions.{IsVersion, updates_begun, updates_done}
use Rattle.lpm_trace.specs.contracts.step.WriterStep as writer_row
use Rattle.lpm_trace.specs.contracts.step.WorkerStep as worker_row

-- ---- a pass

-- which table it is of, the number of its worker, and whether that is online; the worker's own steps, and
-- what it has seen of the writer's, the newest first. Each step of its own has its place: how many of the
-- writer's steps it had seen then.
pub record PassState : Type 0 where
  pub table : Identity
  pub worker : ℕ
  pub online : Bool
  pub steps : List (WorkerStep × ℕ)
  pub writer_steps : List WriterStep

-- it made these steps at these places and no others, each after all that it had seen before
pub record Makes (made : List (WorkerStep × ℕ)) (p q : PassState) : Type 0 where
  pub steps : q.steps ≡ made ++ p.steps
  pub places : All (λ s. (length p.writer_steps ≤ s.1) × (s.1 ≤ length q.writer_steps)) made
  pub writer_steps : IsLater p.writer_steps q.writer_steps
  pub table : q.table ≡ p.table
  pub worker : q.worker ≡ p.worker

-- ---- a lookup

-- the hop is that of the longest match in the rules of version k, which stood after the first `place` of the
-- writer's steps: its update was begun, and the next one wasn't done
pub record IsHopOfVersion (table : Identity) (steps : List WriterStep) (addr : ℕ) (hop : Option ℕ) (place k : ℕ)
    : Type 0 where
  pub rules : RuleMap
  pub version : IsVersion table.initial.rules steps k rules
  pub within : place ≤ length steps
  pub done : updates_done (oldest place steps) ≤ k
  pub begun : k ≤ updates_begun (oldest place steps)
  pub answers : IsLongestHop (table.initial.first + table.initial.second) rules addr hop

-- an address that was looked up has its hop by its last word, and that is the answer of a version from `lo`
-- to `hi`, which stood at a place from the load of its first word to that of its last
pub record IsAnswered (table : Identity) (steps : List WriterStep) (lo hi : ℕ) (f : AddressLookup) : Type 0 where
  pub exact : IsReadOn (entry_in f.word) f.second f.hop
  pub place : ℕ
  pub version : ℕ
  pub answer : IsHopOfVersion table steps f.addr f.hop place version
  pub stood : (f.first ≤ place) × (place ≤ last_at f.first f.second)
  pub within : (lo ≤ version) × (version ≤ hi)

-- the address is looked up: the sequence is loaded, the first word, the second word where the first is a
-- group's, and the sequence again. `lo` is how many updates were done at the first of these steps, `hi` how
-- many were begun at the last.
pub record LooksUp (addr : ℕ) (hop : Option ℕ) (lo hi : ℕ) (p q : PassState) : Type 0 where
  pub low : ℕ
  pub begins : ℕ
  pub found : AddressLookup
  pub high : ℕ
  pub steps : Makes ((EndLookup high, length q.writer_steps)
      ∷ (loads_at found.word found.first found.second ++ (BeginLookup (addr ∷ []) low, begins) ∷ [])) p q
  pub result : (found.addr ≡ addr) × (found.hop ≡ hop)
  pub done_then : lo ≡ updates_done (oldest begins q.writer_steps)
  pub begun_then : hi ≡ updates_begun q.writer_steps
  pub answer : IsAnswered p.table q.writer_steps lo hi found

-- the addresses are looked up together: the sequence is loaded, a first word for each, a second word for
-- each first word that is a group's, and the sequence again. Each has the answer of a version that stood
-- while its own words were loaded.
pub record LooksUpAll (addrs : List ℕ) (hops : List (Option ℕ)) (lo hi : ℕ) (p q : PassState) : Type 0 where
  pub low : ℕ
  pub begins : ℕ
  pub found : List AddressLookup
  pub high : ℕ
  pub steps : Makes ((EndLookup high, length q.writer_steps)
      ∷ ((seconds_at found ++ firsts_at found) ++ (BeginLookup addrs low, begins) ∷ [])) p q
  pub addrs_are : map (λ (f : AddressLookup). f.addr) found ≡ addrs
  pub hops_are : map (λ (f : AddressLookup). f.hop) found ≡ hops
  pub done_then : lo ≡ updates_done (oldest begins q.writer_steps)
  pub begun_then : hi ≡ updates_begun q.writer_steps
  pub answers : All (IsAnswered p.table q.writer_steps lo hi) found

-- ---- what its steps are

-- a pass is online as its steps say; the writer's steps that it has seen might come one after another, and
-- each of its own at its place; and each lookup that it has finished is legal
pub record IsHistory (p : PassState) : Type 0 where
  pub online : (worker_by p.steps).phase ≡ phase_by p.online
  pub written : IsWritten (initial_state p.table) p.writer_steps
  pub rising : AllPairs (λ later earlier. earlier.1 ≤ later.1) p.steps
  pub within : All (λ step. step.1 ≤ length p.writer_steps) p.steps
  pub placed : ArePlaced (initial_state p.table) p.writer_steps p.steps
  pub legal : All (IsLegalAtPlace (initial_state p.table) p.writer_steps) (worker_by p.steps).finished

-- ---- the bench

-- the pass of worker k of this table, which is offline
pub record IsPassOf (id : Identity) (k : ℕ) (p : PassState) : Type 0 where
  pub table : p.table ≡ id
  pub worker : p.worker ≡ k
  pub offline : p.online ≡ false

-- the passes that were not registered, by their numbers
abbrev pub IsBenchOf : Identity → List (Option PassState) → Type 0
IsBenchOf id passes = (length passes ≡ id.initial.workers)
    × ((k : ℕ) (p : PassState) → slice_get passes k ≡ Some (Some p) → IsPassOf id k p)

-- the pass is at the bench again; one that was online has gone offline first
abbrev pub IsPutBack : List (Option PassState) → PassState → List (Option PassState) → Type 0
IsPutBack old pass new = (p : PassState) × (new ≡ slice_set old pass.worker (Some p))
    × (pass.online ≡ true → (place : ℕ) × Makes ((StoreOffline, place) ∷ []) pass p)
    × (pass.online ≡ false → p ≡ pass)

-- each worker's pass is there, and has made no step
abbrev pub IsFullBench : Identity → List (Option PassState) → Type 0
IsFullBench id passes = IsBenchOf id passes
    × ((k : ℕ) → k < id.initial.workers
    → (p : PassState) × (slice_get passes k ≡ Some (Some p)) × (p.steps ≡ []))

abbrev pub coded_pass : Coded PassState
coded_pass = code_by (Identity × (ℕ × (Bool × (List (WorkerStep × ℕ) × List WriterStep))))
    (coded× coded_identity (coded× coded_ℕ (coded× coded_bool
    (coded× (coded_list (coded× worker_row.the_row.coded coded_ℕ)) (coded_list writer_row.the_row.coded)))))
    (λ p. (p.table, (p.worker, (p.online, (p.steps, p.writer_steps)))))
    (λ z. record { table = z.0; worker = z.1.0; online = z.1.1.0; steps = z.1.1.1.0; writer_steps = z.1.1.1.1 })
    (λ _. refl)
