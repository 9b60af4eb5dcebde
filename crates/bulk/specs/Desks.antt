-- Meaning: whose pass a desk has, and what that pass sees while a piece is answered between two meetings
-- with the writer (this project's).
use Rattle.std.specs.Prelude.{ℕ, ◌≡◌, ◌+◌, ◌<◌, false, List, Option, Some, length, slice_get, slice_index_or, vec_len}
use Rattle.lpm_rules.specs.Longest.{AreLongestHops}
use Rattle.lpm_trace.specs.declared.step.WriterStep.{WriterStep}
use Rattle.lpm_trace.specs.Writer.{IsWritten}
use Rattle.shared_words.specs.Rule.{IsLater}
use Rattle.shared_fib.specs.RunningTable.{Identity, WriterState, Rests, initial_state, steps_of}
use Rattle.shared_fib.specs.Passes.{PassState, IsHistory}
use Rattle.bulk.specs.declared.desk.Desk.{Desk}
use Rattle.bulk.specs.Pieces.{piece_of}

-- its pass is one of this table, and is offline
pub record IsDeskOf (id : Identity) (desk : Desk) : Type 0 where
  pub table : desk.pass.table ≡ id
  pub offline : desk.pass.online ≡ false

-- the number of the worker whose pass it is
abbrev pub worker_of : Desk → ℕ
worker_of desk = desk.pass.worker

-- the worker's pass is at the bench
abbrev pub IsAtBench : List (Option PassState) → ℕ → Type 0
IsAtBench passes worker = (p : PassState) × (slice_get passes worker ≡ Some (Some p))

-- of each desk, what it was and what it is
abbrev pub EachDesk : (Desk → Desk → Type 0) → List Desk → List Desk → Type 0
EachDesk R old new = (k : ℕ) (d : Desk) → k < length old → R (slice_index_or old k d) (slice_index_or new k d)

-- each desk has room for the hops of its piece
abbrev pub HaveRoom : List ℕ → List Desk → Type 0
HaveRoom addrs desks = (k : ℕ) (d : Desk) → k < length desks
    → vec_len (slice_index_or desks k d).hops ≡ length (piece_of addrs (length desks) k)

-- the desk is that of the same worker of the same table, and is offline; and its pass has seen at least
-- what it had seen of the writer's steps
pub record IsSameDesk (old new : Desk) : Type 0 where
  pub table : new.pass.table ≡ old.pass.table
  pub worker : worker_of new ≡ worker_of old
  pub offline : new.pass.online ≡ false
  pub later : IsLater old.pass.writer_steps new.pass.writer_steps

-- its pass has met this writer, which rests: it has seen all of the writer's steps, and what it has seen are
-- steps that a writer makes
pub record HasMet (w : WriterState) (old new : Desk) : Type 0 where
  pub same : IsSameDesk old new
  pub hops : new.hops ≡ old.hops
  pub writer_steps : new.pass.writer_steps ≡ steps_of w
  pub history : IsHistory new.pass
  pub rests : Rests w

-- a writer that rests, all of whose steps were seen before the answers, and no other until after them:
-- they are the next hops by its rules
abbrev pub AnswersAtRest : Identity → List ℕ → List (Option ℕ) → List WriterStep → List WriterStep → Type 0
AnswersAtRest id addrs hops before after = (w : WriterState) → w.identity ≡ id → Rests w
    → IsWritten (initial_state w.identity) (steps_of w) → before ≡ steps_of w → after ≡ steps_of w
    → AreLongestHops (w.identity.initial.first + w.identity.initial.second) w.table.rules addrs hops

-- it has answered these addresses
pub record HasAnswered (addrs : List ℕ) (old new : Desk) : Type 0 where
  pub same : IsSameDesk old new
  pub answers : AnswersAtRest old.pass.table addrs new.hops.items old.pass.writer_steps new.pass.writer_steps
