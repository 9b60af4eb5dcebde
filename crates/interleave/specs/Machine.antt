-- Meaning: where a worker stands in its script: what its own state tells of the steps that it has made,
-- and what one more step does (this project's; a worker's steps are those of its deeds, in order).
use Rattle.std.specs.Prelude.{◌≡◌, ℕ, ◌+◌, ◌*◌, ◌^◌, ◌<◌, ◌≤◌, ⊤, Bool, true, false, All, List, [], ◌∷◌, ◌++◌, length, map, reverse, vec_len, vec_capacity}
use Rattle.lpm_cells.specs.Words.{entry_in, hop_in, Words}
use Rattle.lpm_trace.specs.declared.deed.Deed.{Deed}
use Rattle.lpm_trace.specs.declared.shown_step.Step.{Step}
use Rattle.lpm_trace.specs.declared.step.WorkerStep.{WorkerStep}
use Rattle.lpm_trace.specs.States.{InitialState, TableState, addresses}
use Rattle.lpm_trace.specs.Trace.{Worker, Phase, Probe, Unread, InGroup, Answered, Offline, ComingOnline, Online, LookingUp, ReportingQuiescent, AreBegun, AreAnswered, worker_by_step, MayRead}
use Rattle.interleave.specs.declared.probe.Probe.{Probe as OwnProbe}
use Rattle.interleave.specs.declared.probe.Probe.TheVariants as probe
use Rattle.interleave.specs.declared.probe.Grouped.{Grouped}
use Rattle.interleave.specs.declared.worker.Phase.{Phase as OwnPhase}
use Rattle.interleave.specs.declared.worker.Phase.TheVariants as phase
use Rattle.interleave.specs.declared.worker.Worker.{Worker as Machine}
use Rattle.interleave.specs.declared.finished_lookups.Seen.{Seen}
use Rattle.interleave.specs.Scripts.{IsSoundFrom, IsCut, AreOf, BeginsWith, GoesOn}
use Rattle.interleave.specs.Record.{shown_by, finished_by, seen_by}

-- what the worker is doing
abbrev pub phase_of : OwnPhase → Phase
phase_of phase.Offline = Offline
phase_of (phase.ComingOnline token) = ComingOnline token
phase_of phase.Online = Online
phase_of phase.LookingUp = LookingUp
phase_of (phase.ReportingQuiescent token) = ReportingQuiescent token

-- how far the lookup of one address has come; its answer is that of the last word that was read
abbrev pub probe_of : OwnProbe → Probe
probe_of (probe.Unread a) = Unread a
probe_of (probe.InGroup a g f) = InGroup a g f
probe_of (probe.Answered a x f l) = Answered a (hop_in (entry_in x)) f l

-- the lookup's addresses and how far each has come
abbrev pub probes_of : List OwnProbe → List Probe
probes_of probes = map probe_of probes

-- these are the addresses of a lookup; the words of those before the place were begun, and of the one
-- there no word was read
pub record IsNextUnread (probes : List OwnProbe) (place addr : ℕ) : Type 0 where
  pub before : List OwnProbe
  pub after : List OwnProbe
  pub split : probes ≡ before ++ probe.Unread addr ∷ after
  pub count : length before ≡ place
  pub begun : AreBegun (probes_of before)

-- those before the place have their answers, and the one there goes on in a group
pub record IsNextGrouped (probes : List OwnProbe) (found : Grouped) : Type 0 where
  pub before : List OwnProbe
  pub after : List OwnProbe
  pub split : probes ≡ before ++ probe.InGroup found.addr found.group found.first ∷ after
  pub count : length before ≡ found.place
  pub answered : AreAnswered (probes_of before)

-- the worker's own state tells what its steps have left
pub record Shows (machine : Machine) (r : Worker) : Type 0 where
  pub counter : r.counter ≡ machine.counter
  pub phase : r.phase ≡ phase_of machine.phase
  pub lo : r.lo ≡ machine.lo
  pub probes : r.probes ≡ probes_of machine.probes.items

-- whether the worker is online once the deed that goes on is done
abbrev pub is_online : Phase → Bool
is_online Offline = false
is_online (ComingOnline loaded) = true
is_online Online = true
is_online LookingUp = true
is_online (ReportingQuiescent loaded) = true

-- an address that isn't answered yet is below n, and its group has its words among the second ones,
-- of which there are so many
abbrev pub IsInRange : ℕ → ℕ → ℕ → Probe → Type 0
IsInRange n second seconds (Unread a) = a < n
IsInRange n second seconds (InGroup a g f) = (a < n) × (g * 2 ^ second + 2 ^ second ≤ seconds)
IsInRange n second seconds (Answered a h f l) = ⊤

-- the worker has made these steps of its script's deeds, the newest first, and they leave r
pub record IsAt (first second seconds : ℕ) (machine : Machine) (script : List Deed) (r : Worker)
    (own : List WorkerStep) : Type 0 where
  pub shows : Shows machine r
  -- there is room for four addresses, and there are no more
  pub room : 4 ≤ vec_capacity machine.probes
  pub few : vec_len machine.probes ≤ 4
  pub begun : List Deed
  pub left : List Deed
  pub cut : IsCut script begun left
  pub count : length begun ≡ machine.begun
  pub made : AreOf begun own
  pub sound : IsSoundFrom (2 ^ (first + second)) (is_online r.phase) left
  pub in_range : All (IsInRange (2 ^ (first + second)) second seconds) r.probes

-- the state has these words, this sequence and this token
pub record IsOf (first second : ℕ) (words : Words) (sequence token : ℕ) (c : InitialState)
    (w : TableState) : Type 0 where
  pub first_width : c.first ≡ first
  pub second_width : c.second ≡ second
  pub words_are : w.words ≡ words
  pub sequence_is : w.sequence ≡ sequence
  pub token_is : w.token ≡ token

-- a load of a lookup leaves the deeds that have begun, and as many addresses
pub record StaysOn (before after : Machine) : Type 0 where
  pub begun : after.begun ≡ before.begun
  pub room : vec_capacity after.probes ≡ vec_capacity before.probes
  pub few : vec_len after.probes ≡ vec_len before.probes

-- worker k makes this step at the time `now`, and r is what its earlier steps left
pub record Makes (c : InitialState) (w : TableState) (k now : ℕ) (r : Worker) (s : WorkerStep)
    (machine : Machine) (step : Step) : Type 0 where
  pub may : MayRead c w r s
  pub shows : Shows machine (worker_by_step now r s)
  pub shown : step ≡ shown_by c k r s

-- worker k makes the first step of the deed, from which the rest of its script is sound still
pub record BeginsDeed (c : InitialState) (w : TableState) (k now : ℕ) (r : Worker) (deed : Deed)
    (left : List Deed) (machine : Machine) (step : Step) : Type 0 where
  pub made : WorkerStep
  pub begins : BeginsWith deed made
  pub makes : Makes c w k now r made machine step
  pub sound : IsSoundFrom (addresses c) (is_online (worker_by_step now r made).phase) left
  pub unfinished : finished_by r made ≡ []

-- the lookups that the step finishes come after those that were finished before, the oldest first
abbrev pub IsNoted : ℕ → Worker → WorkerStep → List Seen → List Seen → Type 0
IsNoted k r s before after = after ≡ before ++ reverse (map (seen_by k) (finished_by r s))

-- worker k goes on with a deed that has begun
pub record ContinuesDeed (c : InitialState) (w : TableState) (k now : ℕ) (r : Worker) (machine : Machine)
    (step : Step) (before after : List Seen) : Type 0 where
  pub made : WorkerStep
  pub goes : GoesOn made
  pub makes : Makes c w k now r made machine step
  pub noted : IsNoted k r made before after

-- worker k makes the next step of its script
pub record Advances (first second seconds : ℕ) (c : InitialState) (w : TableState) (k now : ℕ)
    (script : List Deed) (r : Worker) (own : List WorkerStep) (machine : Machine) (step : Step)
    (before after : List Seen) : Type 0 where
  pub made : WorkerStep
  pub may : MayRead c w r made
  pub at : IsAt first second seconds machine script (worker_by_step now r made) (made ∷ own)
  pub shown : step ≡ shown_by c k r made
  pub noted : IsNoted k r made before after
