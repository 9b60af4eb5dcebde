-- Meaning: scripts of workers: the deeds of a worker one after another, and the steps that they are made
-- of (DPDK Programmer's Guide, "RCU Library": a reader comes online, reports quiescent states and goes
-- offline; Gupta, Lin and McKeown, INFOCOM 1998, section 3: a lookup reads one word or two).
use Rattle.std.specs.Prelude.{◌≡◌, ℕ, ◌<◌, ◌⊎◌, ⊤, Bool, true, false, if◌then◌else◌, ◌==◌, All, List, [], ◌∷◌, ◌++◌, reverse}
use Rattle.lpm_trace.specs.declared.deed.Deed.{Deed}
use Rattle.lpm_trace.specs.declared.deed.Deed.TheVariants.{Online, Offline, Quiescent, Lookup, Lookup4, Meet}
use Rattle.lpm_trace.specs.declared.step.WorkerStep.{WorkerStep}
use Rattle.lpm_trace.specs.declared.step.WorkerStep.TheVariants.{LoadOnline, StoreOnline, LoadQuiescent, StoreQuiescent, StoreOffline, BeginLookup, LoadFirst, LoadSecond, EndLookup, MeetWriter}
use Rattle.lpm_trace.specs.declared.step.TraceStep.{TraceStep}
use Rattle.lpm_trace.specs.declared.step.TraceStep.TheVariants.{Writer as ByWriter, Worker as ByWorker}
use Rattle.lpm_trace.specs.Trace.{Worker, IsBetweenDeeds}

-- a worker that is online, or isn't, may do these deeds one after another, of addresses below n: it
-- comes online where it is offline; it goes offline, reports and looks up where it is online; and it
-- meets the writer at any time
abbrev pub IsSoundFrom : ℕ → Bool → List Deed → Type 0
IsSoundFrom n online [] = ⊤
IsSoundFrom n online (Online ∷ deeds) = (online ≡ false) × IsSoundFrom n true deeds
IsSoundFrom n online (Offline ∷ deeds) = (online ≡ true) × IsSoundFrom n false deeds
IsSoundFrom n online (Quiescent ∷ deeds) = (online ≡ true) × IsSoundFrom n online deeds
IsSoundFrom n online (Lookup addr ∷ deeds) =
    (online ≡ true) × (addr < n) × IsSoundFrom n online deeds
IsSoundFrom n online (Lookup4 addrs ∷ deeds) =
    (online ≡ true) × All (λ a. a < n) addrs × IsSoundFrom n online deeds
IsSoundFrom n online (Meet ∷ deeds) = IsSoundFrom n online deeds

-- the deeds of a worker that is offline at first
abbrev pub IsSound : ℕ → List Deed → Type 0
IsSound n deeds = IsSoundFrom n false deeds

-- the deed's first step is this one, whatever value it loads
abbrev pub BeginsWith : Deed → WorkerStep → Type 0
BeginsWith Online (LoadOnline token) = ⊤
BeginsWith Offline StoreOffline = ⊤
BeginsWith Quiescent (LoadQuiescent token) = ⊤
BeginsWith (Lookup addr) (BeginLookup addrs sequence) = addrs ≡ addr ∷ []
BeginsWith (Lookup4 four) (BeginLookup addrs sequence) = addrs ≡ four
BeginsWith Meet (MeetWriter sequence) = ⊤
BeginsWith deed step = ⊥

-- the step goes on with a deed that has begun
abbrev pub GoesOn : WorkerStep → Type 0
GoesOn (LoadOnline token) = ⊥
GoesOn (StoreOnline token) = ⊤
GoesOn (LoadQuiescent token) = ⊥
GoesOn (StoreQuiescent token) = ⊤
GoesOn StoreOffline = ⊥
GoesOn (BeginLookup addrs sequence) = ⊥
GoesOn (LoadFirst word) = ⊤
GoesOn (LoadSecond word) = ⊤
GoesOn (EndLookup sequence) = ⊤
GoesOn (MeetWriter sequence) = ⊥

-- the steps are those of these deeds, of which the last may be unfinished; both lists have the
-- newest first
abbrev pub AreOf : List Deed → List WorkerStep → Type 0
AreOf deeds [] = deeds ≡ []
AreOf deeds (step ∷ steps) = (GoesOn step × AreOf deeds steps)
    ⊎ ((deed : Deed) × (earlier : List Deed) × (deeds ≡ deed ∷ earlier)
    × BeginsWith deed step × AreOf earlier steps)

-- the worker's own steps, the newest first
abbrev pub steps_by : ℕ → List TraceStep → List WorkerStep
steps_by k [] = []
steps_by k (ByWriter s ∷ steps) = steps_by k steps
steps_by k (ByWorker j s ∷ steps) = if k == j then s ∷ steps_by k steps else steps_by k steps

-- these deeds of the script have begun, the newest first, and those are left, in order
abbrev pub IsCut : List Deed → List Deed → List Deed → Type 0
IsCut script begun left = script ≡ reverse begun ++ left

-- the worker's steps are those of the script's deeds, in order, as far as it came
pub record IsScripted (script : List Deed) (worker : ℕ) (steps : List TraceStep) : Type 0 where
  pub begun : List Deed
  pub left : List Deed
  pub cut : IsCut script begun left
  pub made : AreOf begun (steps_by worker steps)

-- all deeds of the script are done: these are the steps of the worker, the newest first, and r is what
-- they leave
pub record IsDone (script : List Deed) (r : Worker) (own : List WorkerStep) : Type 0 where
  pub made : AreOf (reverse script) own
  pub between : IsBetweenDeeds r.phase
