-- The memory of a running table: of what the seat that it has borrowed knows, its steps change the writer's steps alone.
use Rattle.std.proofs.Common.{arith, ℕ, ◌≡◌, ◌+◌, ◌<◌, ap, sym, ◌∙◌, List, [], Result, Ok, Err, ◌%◌, subst}
use Rattle.std.specs.Prelude.{OnOk, OnErr}
use Rattle.lpm_limits.specs.declared.busy.Busy.{Busy}
use Rattle.lpm_trace.specs.declared.step.WriterStep.{WriterStep}
use Rattle.lpm_trace.specs.States.{InitialState, state_after, begun_at, done_at}
use Rattle.lpm_trace.specs.Writer.{token_after, IsWritten}
use Rattle.lpm_trace.proofs.Versions.{token_is}
use Rattle.lpm_trace.specs.Laws.{IsChecked}
use Rattle.lpm_writer.specs.Steps.{Checks}
use Rattle.lpm_writer.proofs.StepsAlone.{steps_passed, steps_stopped}
use Rattle.shared_words.specs.declared.view.View.{View}
use Rattle.shared_words.specs.Layout.{InitialData, initial_state_of}
use Rattle.shared_words.specs.Seats.{AreChecked}
use Rattle.shared_fib.specs.LentSeats.{token_by, LentSeat, SharedDid, SharedDoes}
use Rattle.shared_fib.specs.RunningTable.{OnlySees, WriterState, Identity, Rests, initial_state}
use Rattle.shared_fib.proofs.TokenChecks.{looked, token_checked}
use Rattle.lpm_cells.specs.Words.{entry_at}
use Rattle.lpm_limits.specs.declared.config.Config.{Config}
use Rattle.lpm_rules.specs.RuleMap.{RuleList}
use Rattle.lpm_update.specs.Represents.{Represents}
use Rattle.lpm_update.proofs.Promises.{best_hop}
use Rattle.lpm_writer.specs.declared.pool.GroupPool.{GroupPool}
use Rattle.lpm_writer.specs.Rest.{IsResting, state_of}
use Rattle.lpm_writer.proofs.Reclaims.{is_limbo}
use Rattle.lpm_writer.proofs.UpdateRuns.{fit}
use Rattle.atomic_table.specs.Seated.{TableId}

-- What the start of a grace period and a check of its token leave.

-- what follows from either outcome
pub either : {X Y : Type 0} {A B P : Type 0} (r : Result X Y) → OnOk r A → OnErr r B → (A → P) → (B → P) → P
either (Ok x) a b f g = f a
either (Err e) a b f g = g b

pub on_ok_then : {X Y : Type 0} {A P : Type 0} (r : Result X Y) → OnOk r A → (A → P) → OnOk r P
on_ok_then (Ok x) a f = f a
on_ok_then (Err e) a f = tt

-- two facts of a result that is `Ok`, as one
pub on_ok_both : {X Y : Type 0} {A B P : Type 0} (r : Result X Y) → OnOk r A → OnOk r B → (A → B → P) → OnOk r P
on_ok_both (Ok x) a b f = f a b
on_ok_both (Err e) a b f = tt

pub on_err_then : {X Y : Type 0} {A P : Type 0} (r : Result X Y) → OnErr r A → (A → P) → OnErr r P
on_err_then (Ok x) a f = tt
on_err_then (Err e) a f = f a

-- the newest token stays, whatever came of its check
pub token_stays : (c : InitialState) (x z : List WriterStep) (r : Result (Unit {0}) Busy)
    → Checks c.workers x (token_after c.token x) r z
    → token_after c.token z ≡ token_after c.token x
token_stays c x z (Ok u) h = sym (token_is c z) ∙ (steps_passed c x (token_after c.token x) z h).token ∙ token_is c x
token_stays c x z (Err busy) h = sym (token_is c z) ∙ (steps_stopped c x (token_after c.token x) busy z h).token ∙ token_is c x

-- where its check has passed, it was checked
pub newest_passed : (o : InitialData) (x z : List WriterStep) (r : Result (Unit {0}) Busy) → 0 < token_after o.token x
    → AreChecked o z
    → Checks o.workers x (token_after o.token x) r z
    → OnOk r (IsChecked o.workers o.token z (token_after o.token x))
newest_passed o x z (Err busy) past are h = tt
newest_passed o x z (Ok u) past are h =
    token_checked o z (token_after o.token x) past
    (steps_passed (initial_state_of o) x (token_after o.token x) z h).passed are

-- the same of a seat that made the check
module _ (v w : View) (sees : OnlySees v w) (r : Result (Unit {0}) Busy)
    (h : Checks v.initial.workers v.writer_steps (token_by v) r w.writer_steps) where
  pub seat_token_stays : token_by w ≡ token_by v
  seat_token_stays =
      ap (λ (x : View). token_after x.initial.token w.writer_steps) sees
      ∙ token_stays (initial_state_of v.initial) v.writer_steps w.writer_steps r h

  pub seat_passed : 0 < token_by v → AreChecked w.initial w.writer_steps
      → OnOk r (IsChecked v.initial.workers v.initial.token w.writer_steps (token_by v))
  seat_passed past are = newest_passed v.initial v.writer_steps w.writer_steps r past (looked v w sees are) h

-- A table whose writer's control state rests is at rest.

even_begun : (n : ℕ) → n % 2 ≡ 0 → begun_at n ≡ done_at n
even_begun n even = omega (arith, even)

-- the writer of this table, with this control state
abbrev pub writer_of : Identity → Config → RuleList → List WriterStep → GroupPool → ℕ → WriterState
writer_of id config rules steps pool begun =
    record { identity = id; config = config; table = state_of rules.rules steps pool begun }

pub at_rest : (f s : ℕ) (id : Identity) (config : Config) (rules : RuleList) (steps : List WriterStep)
    (pool : GroupPool) (begun : ℕ) → IsWritten (initial_state id) steps → IsResting f s (initial_state id) steps config rules pool begun
    → Rests (writer_of id config rules steps pool begun)
at_rest f s id config rules steps pool begun written rests =
    let c : InitialState = initial_state id in
    let w = state_after c steps in
    let represents = fit (λ a b. Represents a b rules.rules w.words) f s c rests.widths rests.represents in
    record {
      written = written;
      done = sym rests.versions;
      begun = even_begun w.sequence rests.between.even ∙ sym rests.versions;
      rules = ap (λ n. w.history n) rests.versions ∙ rests.version;
      answers = λ a low. best_hop (c.first + c.second) rules.rules a (entry_at c.second w.words a) (represents.best a low);
      limbo = is_limbo c w pool.groups pool.queue.items rests.keeps.kept;
      once = rests.between.once;
    }

-- the step leads from the first memory to the second
abbrev pub does_in : LentSeat → WriterStep → LentSeat → Type 0
does_in m s z = SharedDoes s m z

abbrev pub unseeing : View → View
unseeing v = record v { writer_steps = [] }

-- what no step changes
abbrev pub FixedPart : Type 0
FixedPart = ℕ × (TableId × View)

abbrev pub fixed_part : LentSeat → FixedPart
fixed_part m = (m.name, (m.table, unseeing m.view))

pub stays : (m : LentSeat) (s : WriterStep) (z : LentSeat) → does_in m s z → fixed_part z ≡ fixed_part m
stays m s z does = λ i. (does.name i, (does.table i, ap unseeing does.view i))

-- the memory's steps are these, and it has kept the rest
pub only_sees : (m z : LentSeat) → fixed_part z ≡ fixed_part m → OnlySees m.view z.view
only_sees m z same = ap (λ (k : FixedPart). record k.1.1 { writer_steps = z.view.writer_steps }) same

-- where a control state rests by the steps of the memory, it does by what the memory knows
pub rests_after : (K : InitialState → List WriterStep → Type 0) (z : LentSeat) (c : InitialState) (later : List WriterStep)
    → SharedDid z c later → K c later → K (initial_state_of z.view.initial) z.view.writer_steps
rests_after K z c later did rests =
    subst (λ (x : InitialState × List WriterStep). K x.0 x.1) (λ i. (did.initial i, did.steps_are i)) rests

pub outcome_after : (K : List WriterStep → Type 0) (z : LentSeat) (c : InitialState) (later : List WriterStep)
    → SharedDid z c later → K later → K z.view.writer_steps
outcome_after K z c later did outcome = subst K did.steps_are outcome
