-- Meaning: what a memory of a running table is to its writer: a seat that it has borrowed, and the steps
-- that the seat has made (this project's).
use Rattle.std.specs.Prelude.{◌≡◌, ℕ, ◌^◌, ◌≤◌, List, refl}
use Rattle.std.specs.Coded.{Coded, code_by, coded×, coded_ℕ}
use Rattle.atomic_table.specs.Seated.{TableId, table_id_coded}
use Rattle.lpm_trace.specs.declared.step.WriterStep.{WriterStep}
use Rattle.lpm_trace.specs.States.{InitialState, TableState, updates_begun_in}
use Rattle.lpm_trace.specs.Writer.{token_after, passed_after, IsWritten}
use Rattle.shared_words.specs.declared.view.View.{View}
use Rattle.shared_words.specs.contracts.view.View as view_row
use Rattle.shared_words.specs.Layout.{initial_state_of}
use Rattle.shared_words.specs.Seats.{state_of_view, with_step}

-- a seat that was lent under a name: its table, and what it knows
pub record LentSeat : Type 0 where
  pub name : ℕ
  pub table : TableId
  pub view : View

abbrev pub coded_lent : Coded LentSeat
coded_lent =
    code_by (ℕ × (TableId × View)) (coded× coded_ℕ (coded× table_id_coded view_row.the_row.coded))
    (λ l. (l.name, (l.table, l.view)))
    (λ p. record { name = p.0; table = p.1.0; view = p.1.1 })
    (λ _. refl)

-- the token, and the greatest that has passed, by the steps of the view
abbrev pub token_by : View → ℕ
token_by v = token_after v.initial.token v.writer_steps

abbrev pub passed_by : View → ℕ
passed_by v = passed_after v.initial.workers v.writer_steps

abbrev pub state_of_lent : LentSeat → TableState
state_of_lent m = state_of_view m.view

-- the token is the newest, and neither it nor the updates are past their bound
pub record IsAt (v : View) (token : ℕ) : Type 0 where
  pub newest : token ≡ (state_of_view v).token
  pub token_low : token ≤ 2 ^ 62
  pub few : updates_begun_in (state_of_view v) ≤ 2 ^ 61

-- the steps are those of the seat, each of which might come
pub record SharedDid (m : LentSeat) (c : InitialState) (steps : List WriterStep) : Type 0 where
  pub initial : c ≡ initial_state_of m.view.initial
  pub steps_are : steps ≡ m.view.writer_steps
  pub written : IsWritten c steps

-- the seat has made one more step
pub record SharedDoes (s : WriterStep) (m z : LentSeat) : Type 0 where
  pub name : z.name ≡ m.name
  pub table : z.table ≡ m.table
  pub view : z.view ≡ with_step m.view s
