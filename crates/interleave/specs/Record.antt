-- Meaning: what a run shows of a trace: each step, and each finished lookup (this project's: a step is
-- one load or one store of one word, told with its actor, its kind, its index and its value).
use Rattle.std.specs.Prelude.{ℕ, ◌+◌, ◌*◌, ◌/◌, ◌%◌, ◌^◌, List, [], ◌∷◌, suc, ◌++◌, ◌==◌, map, reverse}
use Rattle.lpm_trace.specs.declared.shown_step.Actor.TheVariants.{Worker as WorkerActor, Writer as WriterActor}
use Rattle.lpm_trace.specs.declared.shown_step.Kind.{Kind}
use Rattle.lpm_trace.specs.declared.shown_step.Step.{Step}
use Rattle.lpm_trace.specs.declared.step.WorkerStep.{WorkerStep}
use Rattle.lpm_trace.specs.declared.step.WorkerStep.TheVariants.{LoadOnline, StoreOnline, LoadQuiescent, StoreQuiescent, StoreOffline, BeginLookup, LoadFirst, LoadSecond, EndLookup, MeetWriter}
use Rattle.lpm_trace.specs.States.{InitialState, begun_at}
use Rattle.lpm_trace.specs.Trace.{Worker, Probe, Unread, InGroup, Answered, FinishedLookup, with_answers, after, worker_of}
use Rattle.interleave.specs.declared.finished_lookups.Seen.{Seen}
use Rattle.std.specs.List.{filter}
use Rattle.lpm_trace.specs.declared.step.WriterStep.{WriterStep}
use Rattle.lpm_trace.specs.declared.step.WriterStep.TheVariants.{StoreFirst, StoreSecond, BeginUpdate, EndUpdate, BumpToken, LoadCounter}
use Rattle.lpm_trace.specs.declared.step.TraceStep.{TraceStep}
use Rattle.lpm_trace.specs.declared.step.TraceStep.TheVariants.{Writer, Worker as ByWorker}
use Rattle.lpm_trace.specs.declared.shown_step.Kind.TheVariants as kind

-- What a run shows of a worker's steps and of its lookups (this project's: each step is one load or
-- one store of one word, told with its index and its value).

-- the index of the first word that is read next
abbrev pub next_first : InitialState → List Probe → ℕ
next_first c [] = 0
next_first c (Unread a ∷ rest) = a / 2 ^ c.second
next_first c (InGroup a g f ∷ rest) = next_first c rest
next_first c (Answered a h f l ∷ rest) = next_first c rest

-- the index of the second word that is read next
abbrev pub next_second : InitialState → List Probe → ℕ
next_second c [] = 0
next_second c (Unread a ∷ rest) = next_second c rest
next_second c (InGroup a g f ∷ rest) = g * 2 ^ c.second + a % 2 ^ c.second
next_second c (Answered a h f l ∷ rest) = next_second c rest

-- a step of worker k
abbrev pub step_of_worker : ℕ → Kind → ℕ → ℕ → Step
step_of_worker k kind index value =
    record { actor = WorkerActor k; kind = kind; index = index; value = value }

-- a step of worker k as a run shows it, where r is what its earlier steps left
abbrev pub shown_by : InitialState → ℕ → Worker → WorkerStep → Step
shown_by c k r (LoadOnline token) = step_of_worker k kind.LoadToken 0 token
shown_by c k r (StoreOnline token) = step_of_worker k kind.StoreCounter k token
shown_by c k r (LoadQuiescent token) = step_of_worker k kind.LoadToken 0 token
shown_by c k r (StoreQuiescent token) = step_of_worker k kind.StoreCounter k token
shown_by c k r StoreOffline = step_of_worker k kind.StoreCounter k 0
shown_by c k r (BeginLookup addrs sequence) = step_of_worker k kind.LoadSequence 0 sequence
shown_by c k r (LoadFirst word) = step_of_worker k kind.LoadFirst (next_first c r.probes) word
shown_by c k r (LoadSecond word) = step_of_worker k kind.LoadSecond (next_second c r.probes) word
shown_by c k r (EndLookup sequence) = step_of_worker k kind.LoadSequence 0 sequence
shown_by c k r (MeetWriter sequence) = step_of_worker k kind.LoadSequence 0 sequence

-- the lookups that the step finishes, the newest first: those of the lookup that it ends
abbrev pub finished_by : Worker → WorkerStep → List FinishedLookup
finished_by r (EndLookup sequence) = with_answers r.lo (begun_at sequence) r.probes []
finished_by r other = []

-- a finished lookup of worker k as a run shows it
abbrev pub seen_by : ℕ → FinishedLookup → Seen
seen_by k f = record {
  worker = k;
  addr = f.addr;
  hop = f.hop;
  first = f.first;
  last = f.last;
  lo = f.lo;
  hi = f.hi;
}

-- a step of the writer
abbrev pub step_of_writer : Kind → ℕ → ℕ → Step
step_of_writer kind index value =
    record { actor = WriterActor; kind = kind; index = index; value = value }

-- a step of the writer as a run shows it, where these are the sequence and the token before it
abbrev pub shown_write : ℕ → ℕ → WriterStep → Step
shown_write sequence token (StoreFirst i word) = step_of_writer kind.StoreFirst i word
shown_write sequence token (StoreSecond j word) = step_of_writer kind.StoreSecond j word
shown_write sequence token (BeginUpdate change) = step_of_writer kind.BumpSequence 0 (suc sequence)
shown_write sequence token EndUpdate = step_of_writer kind.BumpSequence 0 (suc sequence)
shown_write sequence token BumpToken = step_of_writer kind.BumpToken 0 (suc token)
shown_write sequence token (LoadCounter checked worker counter) =
    step_of_writer kind.LoadCounter worker counter

-- a step as a run shows it, after these earlier ones
abbrev pub step_shown : InitialState → List TraceStep → TraceStep → Step
step_shown c earlier (Writer s) =
    shown_write (after c earlier).state.sequence (after c earlier).state.token s
step_shown c earlier (ByWorker k s) = shown_by c k (worker_of k earlier) s

-- all steps of a trace as a run shows them, the oldest first
abbrev pub all_shown : InitialState → List TraceStep → List Step
all_shown c [] = []
all_shown c (s ∷ steps) = all_shown c steps ++ step_shown c steps s ∷ []

-- the lookups that a step finishes, after these earlier ones, in the order of their addresses
abbrev pub seen_in : List TraceStep → TraceStep → List Seen
seen_in earlier (Writer s) = []
seen_in earlier (ByWorker k s) =
    reverse (map (seen_by k) (finished_by (worker_of k earlier) s))

-- all finished lookups of a trace, in the order in which they ended
abbrev pub all_seen : List TraceStep → List Seen
all_seen [] = []
all_seen (s ∷ steps) = all_seen steps ++ seen_in steps s

-- those of worker k, in the same order
abbrev pub seen_of : ℕ → List Seen → List Seen
seen_of k seen = filter (λ s. k == s.worker) seen
