-- Meaning: the rule of the shared table: there is a trace after which the words are the table's, and
-- which has the steps of each seat (DPDK Programmer's Guide, "RCU Library", and this project's traces:
-- one writer, and workers that load and store a word at a time).
use Rattle.std.specs.Prelude.{ℕ, ◌≡◌, ◌+◌, ◌≤◌, ◌<◌, ⊤, List, [], ◌++◌}
use mathlib.Core.Option.{some}
use lib.ListN.{get_elem?}
use Rattle.atomic_table.specs.Table.{State}
use Rattle.lpm_trace.specs.declared.step.WriterStep.{WriterStep}
use Rattle.lpm_trace.specs.declared.step.TraceStep.{TraceStep}
use Rattle.lpm_trace.specs.States.{IsSettled}
use Rattle.lpm_trace.specs.Trace.{after, IsTrace, writes, own_steps}
use Rattle.shared_words.specs.declared.view.Role.{Role}
use Rattle.shared_words.specs.declared.view.Role.TheVariants.{Writer, Worker, Note}
use Rattle.shared_words.specs.declared.view.View.{View}
use Rattle.shared_words.specs.Layout.{InitialData, initial_state_of, no_initial_data, IsLaidOut}

-- the list went on from there, the newest first
abbrev pub IsLater : List WriterStep → List WriterStep → Type 0
IsLater old now = (new : List WriterStep) × (now ≡ new ++ old)

-- who sits where: the writer's seat, how many workers' seats were made, and the seat of each
pub record SeatPlan : Type 0 where
  pub writer : ℕ
  pub made : ℕ
  pub seat_of : ℕ → ℕ

-- what a seat knows is of the trace: the writer knows all its steps, and a worker all its own
abbrev pub Sits : InitialData → List TraceStep → SeatPlan → ℕ → View → Role → Type 0
Sits o steps seating seat v Writer = (seat ≡ seating.writer) × (v.initial ≡ o)
    × (v.writer_steps ≡ writes steps) × (v.made ≡ seating.made)
Sits o steps seating seat v (Worker k) = (seat ≡ seating.seat_of k) × (v.initial ≡ o)
    × (k < seating.made) × (v.own_steps ≡ own_steps k steps)
Sits o steps seating seat v Note = ⊤

-- and what it has seen and heard of is a beginning of the writer's steps
pub record IsViewOf (o : InitialData) (steps : List TraceStep) (seating : SeatPlan) (seat : ℕ) (v : View)
    : Type 0 where
  pub sits : Sits o steps seating seat v v.role
  pub writer_steps : IsLater v.writer_steps (writes steps)
  pub heard : IsLater v.heard (writes steps)

-- there is a trace after which the words are these, and which has the steps of each seat
pub record Holds (o : InitialData) (s : State (Unit {0}) View) : Type 0 where
  pub steps : List TraceStep
  pub seating : SeatPlan
  pub settled : IsSettled (initial_state_of o)
  pub trace : IsTrace (initial_state_of o) steps
  pub words : IsLaidOut o s.words (after (initial_state_of o) steps)
  pub made : seating.made ≤ o.workers
  pub unmade : (k : ℕ) → seating.made ≤ k → own_steps k steps ≡ []
  pub views : (seat : ℕ) (v : View) → get_elem? s.views seat ≡ some v
      → IsViewOf o steps seating seat v

-- ---- how views begin

-- the writer's, which the table is opened with
abbrev pub writer_view : InitialData → View
writer_view o = record { initial = o; role = Writer; made = 0; own_steps = []; writer_steps = []; heard = [] }

-- that of the next worker, once its seat is cut off the writer's
abbrev pub worker_view : View → View
worker_view v = record {
  initial = v.initial;
  role = Worker v.made;
  made = 0;
  own_steps = [];
  writer_steps = v.writer_steps;
  heard = [];
}

abbrev pub with_one_more : View → View
with_one_more v = record v { made = v.made + 1 }

-- a note of what a seat has seen
abbrev pub note_of : View → View
note_of v = record {
  initial = v.initial;
  role = Note;
  made = 0;
  own_steps = [];
  writer_steps = v.writer_steps;
  heard = [];
}

-- what is left of a note that was read
abbrev pub read_note : View
read_note = record {
  initial = no_initial_data;
  role = Note;
  made = 0;
  own_steps = [];
  writer_steps = [];
  heard = [];
}

-- a seat has heard what the note says
abbrev pub view_with_note : View → View → View
view_with_note v note = record v { heard = note.writer_steps }
