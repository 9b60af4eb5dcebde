-- A token that is started, or checked, by way of the memory that the writer's seat is lent to.
use Rattle.std.proofs.Common.{ℕ, ◌≡◌, ◌+◌, ◌^◌, ◌<◌, ◌≤◌, ap, sym, subst, ◌∙◌, List, Result}
use Rattle.std.specs.Prelude.{All, ◌↔◌, IsErr, OnErr, OnOk}
use Rattle.lpm_limits.specs.declared.busy.Busy.{Busy}
use Rattle.lpm_trace.specs.declared.step.WriterStep.{WriterStep}
use Rattle.lpm_trace.specs.declared.step.WriterStep.TheVariants.{BumpToken}
use Rattle.lpm_trace.specs.States.{InitialState, updates_begun_in}
use Rattle.lpm_trace.specs.Laws.{IsChecked}
use Rattle.lpm_trace.proofs.Versions.{token_is}
use Rattle.lpm_writer.specs.declared.control.ControlState.{ControlState}
use Rattle.lpm_writer.specs.Steps.{Checks}
use Rattle.lpm_writer.specs.MemorySteps as traced
use Rattle.lpm_writer.specs.Rest.{IsResting}
use Rattle.lpm_writer.specs.Commands.{IsWaiting}
use Rattle.lpm_writer.specs.Limbo.{tokens_of}
use Rattle.lpm_writer.proofs.StepsAlone.{checks_alone, checks_fixed}
use Rattle.shared_words.specs.declared.view.View.{View}
use Rattle.shared_words.specs.Layout.{InitialData, initial_state_of}
use Rattle.shared_words.specs.Seats.{AreLawful, state_of_view, with_step}
use Rattle.shared_fib.specs.Grace.{IsInGrace}
use Rattle.shared_fib.specs.LentSeats.{LentSeat, SharedDid, passed_by, state_of_lent, token_by}
use Rattle.shared_fib.specs.RunningTable.{IsSoundWriter, OnlySees}
use Rattle.shared_fib.proofs.SeatMemory.{either, on_err_then, on_ok_both, on_ok_then, seat_passed, seat_token_stays, FixedPart, fixed_part, does_in, stays, only_sees, outcome_after, rests_after}
use Rattle.shared_fib.proofs.Synchronizations.{exhausted_by, queued_passed}

pub kept_by_check : (o : InitialData) (m z : LentSeat) (steps later : List WriterStep) (token : ℕ) (r : Result (Unit {0}) Busy)
    → traced.Checks does_in (initial_state_of o) (m, steps) token r (z, later) → fixed_part z ≡ fixed_part m
kept_by_check o m z steps later token r =
    checks_fixed LentSeat does_in (initial_state_of o) FixedPart fixed_part stays (m, steps) (z, later) token r

-- The seat, which knew v, was lent to the memory m. From the control state `old` and m the call has led to `new` and z, and
-- the seat knows w then.
module _ (f s : ℕ) (old new : ControlState f s) (v w : View) (m z : LentSeat) (knew : m.view ≡ v) (knows : z.view ≡ w)
    (low : (state_of_lent z).token ≤ 2 ^ 62) (few : updates_begun_in (state_of_lent z) ≤ 2 ^ 61) where
  abbrev c : InitialState
  c = initial_state_of v.initial

  abbrev Waits : InitialState → List WriterStep → Type 0
  Waits by later = IsWaiting f s by later new.config new.rules new.pool new.versions

  abbrev RestsNow : InitialState → List WriterStep → Type 0
  RestsNow by later = IsResting f s by later new.config new.rules new.pool new.versions

  in_grace : (later : List WriterStep) → SharedDid z c later → Waits c later → IsInGrace f s new w
  in_grace later did waits = subst (IsInGrace f s new) knows (record {
    waits = rests_after Waits z c later did waits;
    token = low;
    updates = few;
  })

  -- ---- a start

  pub record Starts {E : Type 0} (r : Result (Unit {0}) E) : Type 0 where
    pub exhausted : IsErr r ↔ (2 ^ 62 < token_by v + new.config.groups)
    pub started : OnOk r (w ≡ with_step v BumpToken)
    pub waits : OnOk r (IsInGrace f s new w)
    pub untouched : OnErr r (w ≡ v)
    pub table : z.table ≡ m.table

  pub starts : {E : Type 0} (r : Result (Unit {0}) E) → IsErr r ↔ (2 ^ 62 < (state_of_lent m).token + new.config.groups)
      → OnOk r ((later : List WriterStep) × SharedDid z c later × traced.Goes does_in (m, v.writer_steps) BumpToken (z, later) × Waits c later)
      → OnErr r (z ≡ m) → Starts r
  starts r exhausted came same = record {
    exhausted = subst (λ (x : View). IsErr r ↔ (2 ^ 62 < token_by x + new.config.groups)) knew
        (exhausted_by (initial_state_of m.view.initial) m.view.writer_steps (IsErr r) new.config.groups exhausted);
    started = on_ok_then r came (λ h. sym knows ∙ h.2.0.view ∙ ap (λ (x : View). with_step x BumpToken) knew);
    waits = on_ok_then r came (λ h. in_grace h.0 h.1 h.3);
    untouched = on_err_then r same (λ is. sym knows ∙ ap (λ (l : LentSeat). l.view) is ∙ knew);
    table = either r came same (λ h. h.2.0.table) (ap (λ (l : LentSeat). l.table));
  }

  -- ---- a check

  pub record ChecksOnce (r : Result (Unit {0}) Busy) (x : View) : Type 0 where
    pub checks : Checks v.initial.workers v.writer_steps (token_by v) r x.writer_steps
    pub token : token_by x ≡ token_by v
    pub checked : OnOk r (IsChecked v.initial.workers v.initial.token x.writer_steps (token_by v))
    pub queued : OnOk r (0 < old.config.workers → All (λ token. token ≤ passed_by x) (tokens_of new.pool.queue.items))
    pub ready : OnOk r (IsSoundWriter f s new x)
    pub waits : OnErr r (IsInGrace f s new w)
    pub table : z.table ≡ m.table
    pub view : OnlySees v x

  pub checks_once : (r : Result (Unit {0}) Busy) → fixed_part z ≡ fixed_part m → 0 < token_by v → AreLawful z.view.initial z.view.writer_steps
      → (later : List WriterStep) × SharedDid z c later
      × traced.Checks does_in c (m, v.writer_steps) (state_of_lent m).token r (z, later)
      × OnOk r (RestsNow c later) × OnErr r (Waits c later)
      → OnOk r (All (λ (item : ℕ × ℕ). item.1 ≤ new.pool.passed) new.pool.queue.items)
      → new ≡ record old { pool = record old.pool { passed = new.pool.passed } } → ChecksOnce r w
  checks_once r still past lawful came queued same =
      let token : ℕ = (state_of_lent m).token in
      let sees : OnlySees v z.view = subst (λ (x : View). OnlySees x z.view) knew (only_sees m z still) in
      let by_steps : Checks v.initial.workers v.writer_steps (token_by v) r z.view.writer_steps =
      subst (λ (t : ℕ). Checks c.workers v.writer_steps t r z.view.writer_steps)
      (ap (λ (x : View). (state_of_view x).token) knew ∙ token_is c v.writer_steps)
      (outcome_after (Checks c.workers v.writer_steps token r) z c came.0 came.1
      (checks_alone LentSeat does_in c (m, v.writer_steps) (z, came.0) token r came.2)) in
      let rests : OnOk r (RestsNow (initial_state_of z.view.initial) z.view.writer_steps) =
      on_ok_then r came.3 (rests_after RestsNow z c came.0 came.1) in
      subst (ChecksOnce r) knows (record {
        checks = by_steps;
        token = seat_token_stays v z.view sees r by_steps;
        checked = seat_passed v z.view sees r by_steps past lawful.checked;
        queued = on_ok_both r rests queued (λ rest all some.
            queued_passed f s (initial_state_of z.view.initial) z.view.writer_steps new.config new.rules new.pool new.versions rest all
            (subst (λ (l : ControlState f s). 0 < l.config.workers) (sym same) some));
        ready = on_ok_then r rests (λ rest. record { rests = rest; token = low });
        waits = on_err_then r came.4 (in_grace came.0 came.1);
        table = ap (λ (k : FixedPart). k.1.0) still;
        view = sees;
      })
