-- Meaning: what one step of the table gains the view of its seat, and no other (DPDK Programmer's
-- Guide, "RCU Library": a worker stores the token in its counter; the writer loads each counter).
use Rattle.std.specs.Prelude.{ℕ, ◌≡◌, ◌+◌, ◌*◌, ◌/◌, ◌%◌, ◌^◌, ◌<◌, ◌≤◌, All, List, [], ◌∷◌, length, slice_index, refl}
use Rattle.std.specs.List.{AllPairs}
use Rattle.std.specs.Coded.{Coded, code_by, coded×, coded_ℕ}
use Rattle.atomic_table.specs.Seated.{TableId, table_id_coded}
use Rattle.atomic_table.specs.Table.{Me, Step}
use Rattle.lpm_trace.specs.declared.step.WriterStep.{WriterStep}
use Rattle.lpm_trace.specs.declared.step.WorkerStep.{WorkerStep}
use Rattle.lpm_cells.specs.Words.{IsWords}
use Rattle.lpm_trace.specs.States.{TableState, state_after}
use Rattle.lpm_trace.specs.Writer.{IsWritten, MayStep, passed_after}
use Rattle.lpm_trace.specs.Trace.{worker_by, Probe, Unread, InGroup, Answered}
use Rattle.lpm_trace.specs.Laws.{IsLegalAtPlace, ArePlaced, IsChecked}
use Rattle.shared_words.specs.declared.view.View.{View}
use Rattle.shared_words.specs.contracts.view.View as view_row
use Rattle.shared_words.specs.declared.view.Role.TheVariants.{Worker as AsWorker, Writer as AsWriter}
use Rattle.shared_words.specs.declared.layout.Layout.{Layout}
use Rattle.shared_words.specs.contracts.layout.Layout as layout_row
use Rattle.shared_words.specs.Layout.{half, word_count, first_at, second_at, sequence_at, token_at, InitialData, coded_initial_data, initial_state_of}
use Rattle.shared_words.specs.Rule.{IsLater}

-- what callers see of the words: which table of atomic words it is, what it was opened with, and where each
-- word lies in it
pub record WordsAt : Type 0 where
  pub table : TableId
  pub initial : InitialData
  pub layout : Layout

abbrev pub coded_words : Coded WordsAt
coded_words = code_by (TableId × (InitialData × Layout))
    (coded× table_id_coded (coded× coded_initial_data layout_row.the_row.coded))
    (λ w. (w.table, (w.initial, w.layout)))
    (λ p. record { table = p.0; initial = p.1.0; layout = p.1.1 }) (λ _. refl)

-- a seat at these words: its view says what they were opened with, and the table has a word for each place
-- and addresses of at most 32 bits
pub record IsOf (w : WordsAt) (seat : TableId) (v : View) : Type 0 where
  pub same : seat ≡ w.table
  pub initial_is : v.initial ≡ w.initial
  pub widths : w.initial.first + w.initial.second ≤ 32
  pub firsts : w.layout.firsts ≡ length w.initial.firsts
  pub seconds : w.layout.seconds ≡ length w.initial.seconds
  pub workers : w.layout.workers ≡ w.initial.workers
  pub words : w.table.words ≡ word_count w.initial
  pub low : word_count w.initial < 2 ^ 63

-- ---- the writer

-- what the steps of the writer's view leave
abbrev pub state_of_view : View → TableState
state_of_view v = state_after (initial_state_of v.initial) v.writer_steps

-- the step may follow those of the writer's view
abbrev pub MayFollow : View → WriterStep → Type 0
MayFollow v s = MayStep (initial_state_of v.initial) v.writer_steps s

-- the writer's view after a step of its own
abbrev pub with_step : View → WriterStep → View
with_step v s = record v { writer_steps = s ∷ v.writer_steps }

-- each token up to the greatest that has passed was checked
abbrev pub AreChecked : InitialData → List WriterStep → Type 0
AreChecked o w_steps = (token : ℕ) → 0 < token → token ≤ passed_after o.workers w_steps
    → IsChecked o.workers o.token w_steps token

-- the writer's steps: each might come after those before it, they leave entries, and each token that has
-- passed was checked
pub record AreLawful (o : InitialData) (w_steps : List WriterStep) : Type 0 where
  pub written : IsWritten (initial_state_of o) w_steps
  pub words : IsWords o.first o.second (state_after (initial_state_of o) w_steps).words
  pub checked : AreChecked o w_steps

-- the writer's step is made, and its steps are lawful then
abbrev pub WriterGains : WriterStep → Me (Unit {0}) View → Me (Unit {0}) View → Type 0
WriterGains s me me' = (me' ≡ (with_step me.0 s, me.1)) × AreLawful me'.0.initial me'.0.writer_steps

-- what callers see of the writer's seat: at which table it is, and what it knows
pub record WriterAt : Type 0 where
  pub table : TableId
  pub view : View

abbrev pub coded_writer : Coded WriterAt
coded_writer = code_by (TableId × View) (coded× table_id_coded view_row.the_row.coded)
    (λ s. (s.table, s.view)) (λ p. record { table = p.0; view = p.1 }) (λ _. refl)

-- it is the writer's seat, has heard of nothing and keeps nothing of its own, and its steps are lawful
pub record IsWriterSeat (me : Me (Unit {0}) View) : Type 0 where
  pub alone : me.1 ≡ []
  pub role : me.0.role ≡ AsWriter
  pub heard : me.0.heard ≡ []
  pub lawful : AreLawful me.0.initial me.0.writer_steps

-- a load of a word that the writer alone changes is no step, and finds what its own steps left
pub record IsFoundAt (o : InitialData) (w_steps : List WriterStep) (at word : ℕ) : Type 0 where
  pub first : (i : ℕ) → i < length o.firsts → at ≡ first_at i
      → half i word ≡ slice_index (state_after (initial_state_of o) w_steps).words.firsts i
  pub second : (j : ℕ) → j < length o.seconds → at ≡ second_at o j
      → half j word ≡ slice_index (state_after (initial_state_of o) w_steps).words.seconds j
  pub sequence : at ≡ sequence_at → word ≡ (state_after (initial_state_of o) w_steps).sequence
  pub token : at ≡ token_at → word ≡ (state_after (initial_state_of o) w_steps).token

abbrev pub WriterLooks : Step (Unit {0}) → Me (Unit {0}) View → ℕ → Me (Unit {0}) View → Type 0
WriterLooks s me x me' = (me' ≡ me) × IsFoundAt me.0.initial me.0.writer_steps s.word x

-- ---- a worker

-- what a worker knows after a step: the writer's steps that it has seen might come one after another and leave
-- entries, its own steps stand at places among them that never fall, each may come at its place, and each lookup
-- that it has finished is legal
pub record IsSound (v : View) : Type 0 where
  pub written : IsWritten (initial_state_of v.initial) v.writer_steps
  pub words : IsWords v.initial.first v.initial.second
      (state_after (initial_state_of v.initial) v.writer_steps).words
  pub rising : AllPairs (λ later earlier. earlier.1 ≤ later.1) v.own_steps
  pub within : All (λ step. step.1 ≤ length v.writer_steps) v.own_steps
  pub placed : ArePlaced (initial_state_of v.initial) v.writer_steps v.own_steps
  pub legal : All (IsLegalAtPlace (initial_state_of v.initial) v.writer_steps) (worker_by v.own_steps).finished

-- the worker's own list gains the step, at the place of what it has seen of the writer's steps then
pub record Gains (s : WorkerStep) (v w : View) : Type 0 where
  pub writer_steps : List WriterStep
  pub view : w ≡ record v { own_steps = (s, length writer_steps) ∷ v.own_steps; writer_steps = writer_steps }
  pub later : IsLater v.writer_steps writer_steps
  pub heard : IsLater v.heard writer_steps

abbrev pub WorkerGains : WorkerStep → Me (Unit {0}) View → Me (Unit {0}) View → Type 0
WorkerGains s me me' = (me'.1 ≡ me.1) × Gains s me.0 me'.0 × IsSound me'.0

-- what callers see of a worker's seat: at which table it is, and what it knows
pub record WorkerAt : Type 0 where
  pub table : TableId
  pub worker : ℕ
  pub view : View

abbrev pub coded_worker : Coded WorkerAt
coded_worker = code_by (TableId × (ℕ × View))
    (coded× table_id_coded (coded× coded_ℕ view_row.the_row.coded))
    (λ s. (s.table, (s.worker, s.view)))
    (λ p. record { table = p.0; worker = p.1.0; view = p.1.1 }) (λ _. refl)

-- it is the seat of the worker of this number, keeps nothing of its own, and what it knows is sound
pub record IsWorkerSeat (number : ℕ) (me : Me (Unit {0}) View) : Type 0 where
  pub alone : me.1 ≡ []
  pub role : me.0.role ≡ AsWorker number
  pub inside : number < me.0.initial.workers
  pub sound : IsSound me.0

-- the next first word that a lookup of these addresses reads is at place i
abbrev pub IsFirstAt : ℕ → ℕ → List Probe → Type 0
IsFirstAt second i [] = ⊥
IsFirstAt second i (Unread a ∷ rest) = i ≡ a / 2 ^ second
IsFirstAt second i (InGroup a g f ∷ rest) = IsFirstAt second i rest
IsFirstAt second i (Answered a h f l ∷ rest) = IsFirstAt second i rest

-- the next second word that it reads is at place j
abbrev pub IsSecondAt : ℕ → ℕ → List Probe → Type 0
IsSecondAt second j [] = ⊥
IsSecondAt second j (Unread a ∷ rest) = ⊥
IsSecondAt second j (InGroup a g f ∷ rest) = j ≡ g * 2 ^ second + a % 2 ^ second
IsSecondAt second j (Answered a h f l ∷ rest) = IsSecondAt second j rest

-- ---- both

-- the seat has heard of nothing but steps that the writer made, and forgets them
abbrev pub SeatCompares : Step (Unit {0}) → Me (Unit {0}) View → ℕ → Me (Unit {0}) View → Type 0
SeatCompares s me x me' = (me' ≡ (record me.0 { heard = [] }, me.1)) × IsLater me.0.heard me.0.writer_steps
