-- Meaning: traces: lists of steps, the newest first, each of which may come after those before it. A
-- moment is the state after a number of steps (this project's).
use Rattle.std.specs.Prelude.{◌≡◌, ℕ, ◌+◌, ◌*◌, ◌/◌, ◌%◌, ◌^◌, ◌<◌, ⊤, List, [], ◌∷◌, All, map, slice_index, Option, Some, None, suc, if◌then◌else◌, ◌==◌, length}
use Rattle.lpm_cells.specs.declared.entry.Entry.{Entry}
use Rattle.lpm_cells.specs.declared.entry.Entry.TheVariants.{Miss, Hop, Group}
use Rattle.lpm_cells.specs.Words.{entry_in, hop_in}
use Rattle.lpm_trace.specs.declared.step.WorkerStep.{WorkerStep}
use Rattle.lpm_trace.specs.declared.step.WorkerStep.TheVariants.{LoadOnline, StoreOnline, LoadQuiescent, StoreQuiescent, StoreOffline, BeginLookup, LoadFirst, LoadSecond, EndLookup, MeetWriter}
use Rattle.lpm_trace.specs.States.{InitialState, TableState, addresses, done_at, begun_at, with_at, state_by_step, initial_table_state, MayWrite}
use Rattle.lpm_trace.specs.declared.step.WriterStep.{WriterStep}
use Rattle.lpm_trace.specs.declared.step.TraceStep.{TraceStep}
use Rattle.lpm_trace.specs.declared.step.TraceStep.TheVariants.{Writer, Worker as ByWorker}
use Rattle.lpm_trace.specs.Progress.{WriterProgress, initial_progress, progress_by_step, Follows}

-- What a worker's own steps leave: its counter, its report or lookup that goes on, and its finished
-- lookups; and which of its steps may come next (Gupta, Lin and McKeown, INFOCOM 1998, section 3: a
-- lookup reads one word or two; DPDK Programmer's Guide, "RCU Library": a worker stores the token
-- in its counter when it comes online and in each quiescent state, and 0 when it goes offline).

-- What a worker is doing. In the two reports it has loaded a token that it hasn't stored yet.
pub data Phase : Type 0 where
  Offline : Phase
  ComingOnline : (loaded : ℕ) → Phase
  Online : Phase
  LookingUp : Phase
  ReportingQuiescent : (loaded : ℕ) → Phase

-- How far the lookup of one address has come: no word was read; its first word was, which is a
-- group's; or it has its answer. `first` and `last` tell when the first and the last word was read.
pub data Probe : Type 0 where
  Unread : (addr : ℕ) → Probe
  InGroup : (addr group first : ℕ) → Probe
  Answered : (addr : ℕ) (hop : Option ℕ) (first last : ℕ) → Probe

-- a finished lookup of one address: its answer, when its first and its last word was read, how many
-- updates were done when it began, and how many were begun when it ended
pub record FinishedLookup : Type 0 where
  pub addr : ℕ
  pub hop : Option ℕ
  pub first : ℕ
  pub last : ℕ
  pub lo : ℕ
  pub hi : ℕ

pub record Worker : Type 0 where
  pub counter : ℕ
  pub phase : Phase
  -- when the reader interval began that runs
  pub since : ℕ
  -- of the lookup that goes on: how many updates were done when it began, and its addresses
  pub lo : ℕ
  pub probes : List Probe
  pub finished : List FinishedLookup

-- a worker before its first step
abbrev pub initial_worker : Worker
initial_worker = record { counter = 0; phase = Offline; since = 0; lo = 0; probes = []; finished = [] }

-- an address whose first word is this entry's
abbrev pub read_first : ℕ → ℕ → Entry → Probe
read_first now a Miss = Answered a None now now
read_first now a (Hop hop depth) = Answered a (Some hop) now now
read_first now a (Group group) = InGroup a group now

-- the first word of the next address was read
abbrev pub first_read : ℕ → Entry → List Probe → List Probe
first_read now e [] = []
first_read now e (Unread a ∷ rest) = read_first now a e ∷ rest
first_read now e (InGroup a g f ∷ rest) = InGroup a g f ∷ first_read now e rest
first_read now e (Answered a h f l ∷ rest) = Answered a h f l ∷ first_read now e rest

-- the second word of the next address that has a group was read
abbrev pub second_read : ℕ → Entry → List Probe → List Probe
second_read now e [] = []
second_read now e (Unread a ∷ rest) = Unread a ∷ second_read now e rest
second_read now e (InGroup a g f ∷ rest) = Answered a (hop_in e) f now ∷ rest
second_read now e (Answered a h f l ∷ rest) = Answered a h f l ∷ second_read now e rest

-- the answers of a lookup that ends
abbrev pub with_answers : ℕ → ℕ → List Probe → List FinishedLookup → List FinishedLookup
with_answers lo hi [] seen = seen
with_answers lo hi (Unread a ∷ rest) seen = with_answers lo hi rest seen
with_answers lo hi (InGroup a g f ∷ rest) seen = with_answers lo hi rest seen
with_answers lo hi (Answered a h f l ∷ rest) seen = with_answers lo hi rest
    (record { addr = a; hop = h; first = f; last = l; lo = lo; hi = hi } ∷ seen)

-- the worker after a step of its own at the time `now`
abbrev pub worker_by_step : ℕ → Worker → WorkerStep → Worker
worker_by_step now r (LoadOnline token) = record r { phase = ComingOnline token }
worker_by_step now r (StoreOnline token) = record r { counter = token; phase = Online; since = now }
worker_by_step now r (LoadQuiescent token) = record r { phase = ReportingQuiescent token; since = now }
worker_by_step now r (StoreQuiescent token) = record r { counter = token; phase = Online }
worker_by_step now r StoreOffline = record r { counter = 0; phase = Offline }
worker_by_step now r (BeginLookup addrs sequence) =
    record r { phase = LookingUp; lo = done_at sequence; probes = map Unread addrs }
worker_by_step now r (LoadFirst word) = record r { probes = first_read now (entry_in word) r.probes }
worker_by_step now r (LoadSecond word) = record r { probes = second_read now (entry_in word) r.probes }
worker_by_step now r (EndLookup sequence) = record r {
  phase = Online;
  probes = [];
  finished = with_answers r.lo (begun_at sequence) r.probes r.finished;
}
worker_by_step now r (MeetWriter sequence) = r

-- ---- which step may come next

-- the word is the first word of the next address
abbrev pub IsNextFirst : InitialState → TableState → ℕ → List Probe → Type 0
IsNextFirst c w word [] = ⊥
IsNextFirst c w word (Unread a ∷ rest) = word ≡ slice_index w.words.firsts (a / 2 ^ c.second)
IsNextFirst c w word (InGroup a g f ∷ rest) = IsNextFirst c w word rest
IsNextFirst c w word (Answered a h f l ∷ rest) = IsNextFirst c w word rest

-- the word is the second word of the next address that has a group
abbrev pub IsNextSecond : InitialState → TableState → ℕ → List Probe → Type 0
IsNextSecond c w word [] = ⊥
IsNextSecond c w word (Unread a ∷ rest) = ⊥
IsNextSecond c w word (InGroup a g f ∷ rest) =
    word ≡ slice_index w.words.seconds (g * 2 ^ c.second + a % 2 ^ c.second)
IsNextSecond c w word (Answered a h f l ∷ rest) = IsNextSecond c w word rest

-- each address has had its first word read
abbrev pub AreBegun : List Probe → Type 0
AreBegun [] = ⊤
AreBegun (Unread a ∷ rest) = ⊥
AreBegun (InGroup a g f ∷ rest) = AreBegun rest
AreBegun (Answered a h f l ∷ rest) = AreBegun rest

-- each address has its answer
abbrev pub AreAnswered : List Probe → Type 0
AreAnswered [] = ⊤
AreAnswered (Unread a ∷ rest) = ⊥
AreAnswered (InGroup a g f ∷ rest) = ⊥
AreAnswered (Answered a h f l ∷ rest) = AreAnswered rest

-- neither a report nor a lookup goes on
abbrev pub IsBetweenDeeds : Phase → Type 0
IsBetweenDeeds Offline = ⊤
IsBetweenDeeds (ComingOnline loaded) = ⊥
IsBetweenDeeds Online = ⊤
IsBetweenDeeds LookingUp = ⊥
IsBetweenDeeds (ReportingQuiescent loaded) = ⊥

-- the worker's step may come next, in this state of the table
abbrev pub MayRead : InitialState → TableState → Worker → WorkerStep → Type 0
MayRead c w r (LoadOnline token) = (r.phase ≡ Offline) × (token ≡ w.token)
MayRead c w r (StoreOnline token) = r.phase ≡ ComingOnline token
MayRead c w r (LoadQuiescent token) = (r.phase ≡ Online) × (token ≡ w.token)
MayRead c w r (StoreQuiescent token) = r.phase ≡ ReportingQuiescent token
MayRead c w r StoreOffline = r.phase ≡ Online
MayRead c w r (BeginLookup addrs sequence) =
    (r.phase ≡ Online) × All (λ a. a < addresses c) addrs × (sequence ≡ w.sequence)
MayRead c w r (LoadFirst word) = (r.phase ≡ LookingUp) × IsNextFirst c w word r.probes
MayRead c w r (LoadSecond word) =
    (r.phase ≡ LookingUp) × AreBegun r.probes × IsNextSecond c w word r.probes
MayRead c w r (EndLookup sequence) =
    (r.phase ≡ LookingUp) × AreAnswered r.probes × (sequence ≡ w.sequence)
MayRead c w r (MeetWriter sequence) = IsBetweenDeeds r.phase × (sequence ≡ w.sequence)

pub record World : Type 0 where
  pub state : TableState
  pub progress : WriterProgress
  pub workers : ℕ → Worker

-- the world after a step. A worker's clock is the number of the writer's steps.
abbrev pub apply : InitialState → World → TraceStep → World
apply c w (Writer s) = record w {
  state = state_by_step c w.state s;
  progress = progress_by_step c w.state w.progress s;
}
apply c w (ByWorker k s) =
    record w { workers = with_at w.workers k (worker_by_step w.state.clock (w.workers k) s) }

-- the step may come next
abbrev pub MayCome : InitialState → World → TraceStep → Type 0
MayCome c w (Writer s) =
    MayWrite c (λ k. (w.workers k).counter) w.state s × Follows c w.state w.progress s
MayCome c w (ByWorker k s) = (k < c.workers) × MayRead c w.state (w.workers k) s

-- the world after these steps
abbrev pub after : InitialState → List TraceStep → World
after c [] = record { state = initial_table_state c; progress = initial_progress; workers = λ k. initial_worker }
after c (s ∷ steps) = apply c (after c steps) s

-- each step may come after those before it
abbrev pub IsTrace : InitialState → List TraceStep → Type 0
IsTrace c [] = ⊤
IsTrace c (s ∷ steps) = MayCome c (after c steps) s × IsTrace c steps

-- the writer's own steps
abbrev pub writes : List TraceStep → List WriterStep
writes [] = []
writes (Writer s ∷ steps) = s ∷ writes steps
writes (ByWorker k s ∷ steps) = writes steps

-- a worker's own steps, each with its place: how many steps the writer had made before it
abbrev pub own_steps : ℕ → List TraceStep → List (WorkerStep × ℕ)
own_steps k [] = []
own_steps k (Writer s ∷ steps) = own_steps k steps
own_steps k (ByWorker j s ∷ steps) =
    if k == j then (s, length (writes steps)) ∷ own_steps k steps else own_steps k steps

-- what a worker's own steps leave, by their places
abbrev pub worker_by : List (WorkerStep × ℕ) → Worker
worker_by [] = initial_worker
worker_by (s ∷ steps) = worker_by_step s.1 (worker_by steps) s.0

-- what a worker's steps leave, where the clock is the number of the step itself, from 1
abbrev pub worker_of : ℕ → List TraceStep → Worker
worker_of k [] = initial_worker
worker_of k (Writer s ∷ steps) = worker_of k steps
worker_of k (ByWorker j s ∷ steps) =
    if k == j then worker_by_step (suc (length steps)) (worker_of k steps) s else worker_of k steps
