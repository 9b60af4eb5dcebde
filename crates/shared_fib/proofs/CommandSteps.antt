-- What holds of each command of a writer over the memory of a running table, and what each comes to by the steps that
-- the writer's seat knows.
use Rattle.std.proofs.Common.{◌≡◌, ◌-◌, ℕ, zero, suc, inl, inr, refl, ap, List, [], ◌∷◌, length, Option, Some, None, Result, Ok, Err, arith, sym, subst, ◌≤◌, ◌^◌, take}
use Rattle.std.specs.Prelude.{OnErr, OnOk}
use Rattle.std.proofs.lemmas.Bool.{cases_lt}
use Rattle.std.specs.FinMap.{get}
use Rattle.lpm_limits.specs.declared.busy.Busy.{Busy}
use Rattle.lpm_limits.specs.declared.config.Config.{Config}
use Rattle.lpm_limits.specs.declared.refusal.Refusal.{Refusal}
use Rattle.lpm_limits.specs.declared.refusal.Refusal.TheVariants.{TooManyRules, NoSuchRule, Exhausted, NoGroups, Memory}
use Rattle.lpm_bits.specs.Network.{Network}
use Rattle.lpm_rules.specs.RuleMap.{RuleMap}
use Rattle.lpm_rules.specs.declared.Put.{Put}
use Rattle.lpm_rules.specs.declared.Put.TheVariants.{Added, Replaced, Unchanged}
use Rattle.defer_queue.specs.declared.Reclaimed.{Reclaimed}
use Rattle.fib_model.specs.State.{State, Transitions, Reclaims, MakesRoom, Unlinks, UnlinksOne}
use Rattle.fib_model.specs.Outcomes.{Adds, Deletes, Flushes, Frees, HoldsFront, Shrinks, TakesGroup, Updates, groups_in_use}
use Rattle.fib_model.proofs.Relations.{lacks_or_not}
use Rattle.lpm_trace.specs.declared.step.WriterStep.{WriterStep}
use Rattle.lpm_trace.specs.declared.step.WriterStep.TheVariants.{StoreFirst, BeginUpdate, EndUpdate, BumpToken, LoadCounter}
use Rattle.lpm_trace.specs.Writer.{token_after}
use Rattle.lpm_writer.specs.Steps.{AreStopped, Checks, IsNext, Synchronizes, by_steps_from}
use Rattle.lpm_writer.specs.TokenCheck.{Loads, LoadsUntilStopped}
use Rattle.shared_words.specs.declared.view.View.{View}
use Rattle.shared_words.specs.Rule.{IsLater}
use Rattle.shared_words.proofs.Deeds.{later_trans}
use Rattle.atomic_table.specs.Seated.{TableId}
use Rattle.lpm_trace.specs.States.{InitialState}
use Rattle.lpm_writer.specs.declared.control.ControlState.{ControlState}
use Rattle.lpm_writer.specs.Rest.{IsResting, state_of}
use Rattle.lpm_writer.specs.Commands.{Commands, Rests}
use Rattle.lpm_writer.specs.TakenGroup.{LinksLeast}
use Rattle.lpm_writer.specs.MemorySteps.{WithSteps, by_writer}
use Rattle.lpm_writer.proofs.StepsAlone.{adds_alone, deletes_alone, flushes_alone, frees_alone}
use Rattle.shared_words.specs.Layout.{InitialData, initial_state_of}
use Rattle.shared_words.specs.Seats.{AreChecked, AreLawful}
use Rattle.shared_fib.specs.LentSeats.{LentSeat, SharedDid, state_of_lent}
use Rattle.shared_fib.specs.RunningTable.{Identity, IsSoundWriter, WriterState, by_steps, state_by, steps_of}
use Rattle.shared_fib.specs.FreedGroups.{FreesChecked, TakesLeast}
use Rattle.shared_fib.proofs.TokenChecks.{frees_checked}
use Rattle.shared_fib.proofs.FreedGroups.{Leaves, adds_leave, deletes_leave, flushes_leave, reclaims_leave}
use Rattle.shared_fib.proofs.SeatMemory.{FixedPart, fixed_part, unseeing, does_in, stays, rests_after}
use Rattle.shared_fib.proofs.LeastGroup.{takes_least}
use Rattle.defer_queue.specs.Reclaims as queue

-- The steps that a command leaves go on from those before it.

pub later_same : (xs ys : List WriterStep) → ys ≡ xs → IsLater xs ys
later_same xs ys same = ([], same)

-- ---- the parts of a change

loads : (n : ℕ) (x : List WriterStep) (token : ℕ) (z : List WriterStep) → Loads IsNext n x token z → IsLater x z
loads zero x token z same = later_same x z same
loads (suc n) x token z h = later_trans x h.0 z (loads n x token h.0 h.2) (LoadCounter token n h.1 ∷ [], h.4)

until_stopped : (workers : ℕ) (x : List WriterStep) (token : ℕ) (r : Result (Unit {0}) Busy) (z : List WriterStep)
    → LoadsUntilStopped IsNext workers x token r z → IsLater x z
until_stopped workers x token (Ok passed) z h = loads workers x token z h
until_stopped workers x token (Err busy) z h =
    later_trans x h.0 z (loads busy.worker x token h.0 h.1) (LoadCounter token busy.worker busy.counter ∷ [], h.5)

checks : (workers : ℕ) (x : List WriterStep) (token : ℕ) (r : Result (Unit {0}) Busy) (z : List WriterStep)
    → Checks workers x token r z → IsLater x z
checks workers x token r z (inl h) = later_same x z h.2
checks workers x token r z (inr h) = until_stopped workers x token r z h.1

-- each part of a change goes on from the steps before it
pub record GoOn (t : Transitions (List WriterStep)) : Type 0 where
  pub checks : (x : List WriterStep) (name : ℕ) (r : Result (Unit {0}) Busy) (z : List WriterStep) → t.checks x name r z → IsLater x z
  pub begins : (x z : List WriterStep) → t.begins x z → IsLater x z
  pub unlinks : (x : List WriterStep) (name : ℕ) (z : List WriterStep) → t.unlinks x name z → IsLater x z
  pub ends : (x z : List WriterStep) → t.ends x z → IsLater x z

pub steps_go_on : (workers start : ℕ) → GoOn (by_steps_from workers start)
steps_go_on workers start = record {
  checks = λ x name r z h. checks workers x name r z h;
  begins = λ x z h. (BeginUpdate h.0 ∷ [], h.1);
  unlinks = λ x name z h. (BumpToken ∷ StoreFirst h.1 h.2 ∷ h.0, h.4);
  ends = λ x z h. (EndUpdate ∷ h.0, h.2);
}

-- ---- a command

module _ (t : Transitions (List WriterStep)) (on : GoOn t) where
  freed_front : (n : ℕ) (items : List ℕ) (s : List WriterStep) (left : List ℕ) (z : List WriterStep)
      → queue.FreesFront t.checks (λ y name w. w ≡ y) n items s left z → IsLater s z
  freed_front zero items s left z h = later_same s z h.1
  freed_front (suc n) [] s left z h = absurd h
  freed_front (suc n) (item ∷ rest) s left z h =
      later_trans s h.0 z (on.checks s item (Ok tt) h.0 h.2)
      (later_trans h.0 h.1 z (later_same h.0 h.1 h.3) (freed_front n rest h.1 left z h.4))

  freeing_ended : (max n : ℕ) (left : List ℕ) (s : List WriterStep) (stopped : Option Busy) (z : List WriterStep)
      → queue.Ends t.checks (λ y name w. w ≡ y) max n left s stopped z → IsLater s z
  freeing_ended max n left s None z h = later_same s z h.1
  freeing_ended max n [] s (Some busy) z h = absurd h
  freeing_ended max n (item ∷ rest) s (Some busy) z h = on.checks s item (Err busy) z h.1

  reclaimed : (x : List WriterStep) (max : ℕ) (limbo : List ℕ) (freed : ℕ) (stopped : Option Busy) (left : List ℕ) (z : List WriterStep)
      → Reclaims t x max limbo freed stopped left z → IsLater x z
  reclaimed x max limbo freed stopped left z h =
      later_trans x h.last z (freed_front freed limbo x left h.last h.front) (freeing_ended max freed left h.last stopped z h.end)

  made_room : (c : Config) (x : List WriterStep) (limbo left : List ℕ) (z : List WriterStep) → MakesRoom t c x limbo left z → IsLater x z
  made_room c x limbo left z h = elim (cases_lt c.threshold (length limbo)) [
    | inl over ↦ let r = h.0 over in reclaimed x c.reclaim_max limbo r.0 r.1 left z r.2
    | inr within ↦ later_same x z (h.1 (omega (arith, within))).1
  ]

  unlinked : (c : Config) (n : ℕ) (x : List WriterStep) (limbo : List ℕ) (z : List WriterStep) (limbo' : List ℕ)
      → Unlinks t c n x limbo z limbo' → IsLater x z
  unlinked c zero x limbo z limbo' h = later_same x z h.0
  unlinked c (suc n) x limbo z limbo' h =
      let one : UnlinksOne t c h.0 h.1 z limbo' = h.3 in
      later_trans x h.0 z (unlinked c n x limbo h.0 h.1 h.2)
      (later_trans h.0 one.1 z (on.unlinks h.0 one.0 one.1 one.3) (made_room c one.1 h.1 one.2 z one.4))

  updated : (x z : List WriterStep) → Updates t x z → IsLater x z
  updated x z h = later_trans x h.0 z (on.begins x h.0 h.1) (on.ends h.0 z h.2)

  took_group : (f g : ℕ) (c : Config) (s : State (List WriterStep)) (p : Network) (left : List ℕ) (y : List WriterStep)
      → TakesGroup t f g c s p left y → get s.rules p ≡ None → IsLater s.readers y
  took_group f g c s p left y h absent = elim (lacks_or_not f g c s p absent) [
    | inl lacks ↦ let taken = h.0 lacks in on.checks s.readers taken.0 (Ok tt) y taken.2
    | inr has ↦ later_same s.readers y (h.1 has).1
  ]

  held_front : (s : State (List WriterStep)) (oldest : Option Busy) (y : List WriterStep) → HoldsFront t s oldest y → IsLater s.readers y
  held_front s None y h = later_same s.readers y h.1
  held_front s (Some busy) y h = on.checks s.readers h.0 (Err busy) y h.2

  shrunk : (f g : ℕ) (c : Config) (s : State (List WriterStep)) (R : RuleMap) (z : State (List WriterStep))
      → Shrinks t f g c s R z → IsLater s.readers z.readers
  shrunk f g c s R z h =
      let h1 = h.1 in
      later_trans s.readers h1.0 z.readers (on.begins s.readers h1.0 h1.2)
      (later_trans h1.0 h1.1 z.readers
      (unlinked c (groups_in_use f g s.rules - groups_in_use f g R) h1.0 s.limbo h1.1 z.limbo h1.3) (on.ends h1.1 z.readers h1.4))

same_state : (s z : State (List WriterStep)) → z ≡ s → IsLater s.readers z.readers
same_state s z same = later_same s.readers z.readers (ap (λ (x : State (List WriterStep)). x.readers) same)

-- ---- a command of the writer

module _ (t : Transitions (List WriterStep)) (on : GoOn t) (f g : ℕ) (c : Config) (s z : State (List WriterStep)) where
  pub adds_later : (p : Network) (h : ℕ) (r : Result Put Refusal) → Adds t f g c s p h r z → IsLater s.readers z.readers
  adds_later p h (Ok Added) d =
      let d1 = d.1 in
      later_trans s.readers d1.0 z.readers (took_group t on f g c s p z.limbo d1.0 d1.1 d.0.0) (updated t on d1.0 z.readers d1.2)
  adds_later p h (Ok Replaced) d = updated t on s.readers z.readers d.2
  adds_later p h (Ok Unchanged) d = same_state s z d.1
  adds_later p h (Err TooManyRules) d = same_state s z d.3
  adds_later p h (Err Exhausted) d = same_state s z d.2
  adds_later p h (Err (NoGroups oldest)) d = held_front t on s oldest z.readers d.2
  adds_later p h (Err Memory) d = same_state s z d.1
  adds_later p h (Err other) d = absurd d

  pub deletes_later : (p : Network) (r : Result ℕ Refusal) → Deletes t f g c s p r z → IsLater s.readers z.readers
  deletes_later p (Ok h) d = shrunk t on f g c s _ z d.1
  deletes_later p (Err NoSuchRule) d = same_state s z d.1
  deletes_later p (Err Exhausted) d = same_state s z d.2
  deletes_later p (Err other) d = absurd d

  pub flushes_later : (r : Result ℕ Refusal) → Flushes t f g c s r z → IsLater s.readers z.readers
  flushes_later (Ok zero) d = same_state s z (d.1 refl)
  flushes_later (Ok (suc n)) d = shrunk t on f g c s _ z (d.2 (omega arith))
  flushes_later (Err Exhausted) d = same_state s z d.2
  flushes_later (Err other) d = absurd d

pub frees_later : (t : Transitions (List WriterStep)) → GoOn t → (s z : State (List WriterStep)) (max : ℕ) (r : Reclaimed)
    → Frees t s max r z → IsLater s.readers z.readers
frees_later t on s z max r d = reclaimed t on s.readers max s.limbo r.freed r.stopped z.limbo z.readers d.0

-- ---- a synchronize

stops : (workers n : ℕ) (x : List WriterStep) (token : ℕ) (z : List WriterStep) → AreStopped workers n x token z → IsLater x z
stops workers zero x token z same = later_same x z same
stops workers (suc n) x token z h =
    later_trans x h.0 z (stops workers n x token h.0 h.2) (checks workers h.0 token (Err h.1) z h.3)

pub synchronizes_later : (workers start : ℕ) (x z : List WriterStep) → Synchronizes workers start x z → IsLater x z
synchronizes_later workers start x z h =
    let token : ℕ = token_after start (BumpToken ∷ x) in
    later_trans x (BumpToken ∷ x) z (BumpToken ∷ [], refl)
    (later_trans (BumpToken ∷ x) h.last z (stops workers h.stops (BumpToken ∷ x) token h.last h.stopped)
    (checks workers h.last token (Ok tt) z h.passes))

-- one that was refused made no step
pub synchronized_later : {E : Type 0} (workers start : ℕ) (v w : View) (r : Result (Unit {0}) E) → OnErr r (w ≡ v)
    → OnOk r (Synchronizes workers start v.writer_steps w.writer_steps) → IsLater v.writer_steps w.writer_steps
synchronized_later workers start v w (Ok done) same h = synchronizes_later workers start v.writer_steps w.writer_steps h
synchronized_later workers start v w (Err none) same h = later_same v.writer_steps w.writer_steps (ap (λ (x : View). x.writer_steps) same)

-- the writer at this table with this control state, by what its seat knows
abbrev pub writer_by : {f s : ℕ} → TableId → ControlState f s → View → WriterState
writer_by table control v = record {
  identity = record { words = table; initial = v.initial };
  config = control.config;
  table = state_by control v;
}

-- A command leads from the writer x to y: it has this outcome, each of the groups that it frees was checked, its steps
-- come after all earlier ones, and table and limits stay.
pub record Leads (Outcome : InitialData → WriterState → WriterState → Type 0) (freed : WriterState → List ℕ)
    (o : InitialData) (x y : WriterState) : Type 0 where
  pub outcome : Outcome o x y
  pub checked : FreesChecked o x.table y.table (freed x)
  pub later : IsLater (steps_of x) (steps_of y)
  pub own : y.identity ≡ x.identity
  pub config : y.config ≡ x.config

-- the same of the writer that callers see, and of the table that they name
told_to : (Outcome : InitialData → WriterState → WriterState → Type 0) (freed : WriterState → List ℕ)
    (w x y : WriterState) (id : Identity) → w ≡ x → x.identity ≡ id → Leads Outcome freed w.identity.initial w y
    → Leads Outcome freed id.initial x y
told_to Outcome freed w x y id is own led =
    subst (λ (i : Identity). Leads Outcome freed i.initial x y) own
    (subst (λ (u : WriterState). Leads Outcome freed u.identity.initial u y) is led)

-- The seat, which knew v, was lent to the memory m, after whose steps the control state `old` rested. A command has led from
-- there to the control state `new` and the memory z.
module _ (f s : ℕ) (old new : ControlState f s) (v : View) (m z : LentSeat) (first : SharedDid m (initial_state_of v.initial) v.writer_steps)
    (rested : Rests (initial_state_of v.initial) v.writer_steps old) where
  abbrev c : InitialState
  c = initial_state_of v.initial

  -- the seat is at the table t, callers see the writer x, and they name the table id
  module _ (t : TableId) (at : m.table ≡ t) (knew : m.view ≡ v) (limits : new.config ≡ old.config)
      (lawful : AreLawful z.view.initial z.view.writer_steps) (low : (state_of_lent z).token ≤ 2 ^ 62)
      (x : WriterState) (id : Identity) (seen : writer_by t old v ≡ x) (own : x.identity ≡ id) where
    abbrev before : WriterState
    before = writer_by t old v

    -- the memory has the same seat; what the command leads to, and that the control state is ready for the next one, is
    -- left to show of what the seat knows then
    pub record Came (K : InitialData → WriterState → WriterState → Type 0) (freed : WriterState → List ℕ) : Type 0 where
      pub name : z.name ≡ m.name
      pub at_seat : (t' : TableId) (w : View) → z.table ≡ t' → z.view ≡ w
          → IsSoundWriter f s new w × Leads K freed id.initial x (writer_by t' new w)

    abbrev before_traced : State (WithSteps LentSeat)
    before_traced = state_of old.rules.rules (m, v.writer_steps) old.pool old.versions

    abbrev after_traced : List WriterStep → State (WithSteps LentSeat)
    after_traced later = state_of new.rules.rules (z, later) new.pool new.versions

    abbrev same : FixedPart
    same = (m.name, (t, unseeing v))

    same_at_first : fixed_part m ≡ same
    same_at_first = λ i. (m.name, (at i, unseeing (knew i)))

    -- by these later steps
    module _ (later : List WriterStep) (did : SharedDid z c later)
        (rests : IsResting f s c later new.config new.rules new.pool new.versions) where
      abbrev then : WriterState
      then = record before {
        config = new.config;
        table = state_of new.rules.rules later new.pool new.versions;
      }

      then_is : fixed_part z ≡ same → then ≡ writer_by z.table new z.view
      then_is is = λ i. record {
        identity = record { words = (sym is i).1.0; initial = (sym is i).1.1.initial };
        config = new.config;
        table = state_of new.rules.rules (did.steps_are i) new.pool new.versions;
      }

      came : (K : InitialData → WriterState → WriterState → Type 0) (freed : WriterState → List ℕ) (started : ℕ)
          → K v.initial before then → fixed_part z ≡ same → IsLater v.writer_steps later
          → Leaves c v.writer_steps later before.table.limbo started (freed before) then.table.limbo → Came K freed
      came K freed started outcome stay goes_on leaves = record {
        name = ap (λ (k : FixedPart). k.0) stay;
        at_seat = λ t' w there knows.
            let ready : IsSoundWriter f s new z.view = record {
              rests = rests_after (λ by later. IsResting f s by later new.config new.rules new.pool new.versions) z c later did
                  rests;
              token = low;
            } in
            let by_then : AreChecked v.initial later → Leads K freed v.initial before then = λ are. record {
              outcome = outcome;
              checked = frees_checked v.initial before.table then.table _ old.pool.queue.items started (freed before)
                  rested.keeps.kept.retired refl leaves are;
              later = goes_on;
              own = refl;
              config = limits;
            } in
            let now = subst (λ (w : WriterState). AreChecked w.identity.initial (steps_of w) → Leads K freed v.initial before w)
            (then_is stay) by_then lawful.checked in (
              subst (IsSoundWriter f s new) knows ready,
              told_to K freed before x (writer_by t' new w) id seen own
                  (subst (Leads K freed v.initial before) (λ i. writer_by (there i) new (knows i)) now),
            );
      }

    pub added : (p : Network) (hop : ℕ) (r : Result Put Refusal)
        → Commands SharedDid old m new z (λ c x z. Adds (by_writer does_in c) f s old.config x p hop r z)
        → LinksLeast old.pool.groups new.pool.groups
        → (freed : List ℕ) × Came (λ o x y. Adds (by_steps o) f s x.config x.table p hop r y.table × TakesLeast o x.table y.table)
        (λ _. freed)
    unfolding by_steps
    added p hop r told links =
        let h = told c v.writer_steps first rested in
        let z_table = (then h.0 h.1 h.2).table in
        let alone = adds_alone LentSeat does_in c FixedPart fixed_part stays same f s old.config before_traced
        (after_traced h.0) same_at_first p hop r h.3 in
        let left = adds_leave c f s old.config before.table p hop r z_table alone.0 in
        let least = takes_least f s v.initial v.writer_steps h.0 old.config new.config old.rules new.rules old.pool new.pool
        old.versions new.versions rested h.2 links in (
          left.1,
          came h.0 h.1 h.2 _ (λ _. left.1) left.0 (alone.0, least) alone.1
              (adds_later _ (steps_go_on c.workers c.token) f s old.config before.table z_table p hop r alone.0) left.2,
        )

    pub deleted : (p : Network) (r : Result ℕ Refusal)
        → Commands SharedDid old m new z (λ c x z. Deletes (by_writer does_in c) f s old.config x p r z)
        → (freed : List ℕ) × Came (λ o x y. Deletes (by_steps o) f s x.config x.table p r y.table) (λ _. freed)
    unfolding by_steps
    deleted p r told =
        let h = told c v.writer_steps first rested in
        let z_table = (then h.0 h.1 h.2).table in
        let alone = deletes_alone LentSeat does_in c FixedPart fixed_part stays same f s old.config before_traced
        (after_traced h.0) same_at_first p r h.3 in
        let left = deletes_leave c f s old.config before.table p r z_table alone.0 in (
          left.1,
          came h.0 h.1 h.2 _ (λ _. left.1) left.0 alone.0 alone.1
              (deletes_later _ (steps_go_on c.workers c.token) f s old.config before.table z_table p r alone.0) left.2,
        )

    pub flushed : (r : Result ℕ Refusal)
        → Commands SharedDid old m new z (λ c x z. Flushes (by_writer does_in c) f s old.config x r z)
        → (freed : List ℕ) × Came (λ o x y. Flushes (by_steps o) f s x.config x.table r y.table) (λ _. freed)
    unfolding by_steps
    flushed r told =
        let h = told c v.writer_steps first rested in
        let z_table = (then h.0 h.1 h.2).table in
        let alone = flushes_alone LentSeat does_in c FixedPart fixed_part stays same f s old.config before_traced
        (after_traced h.0) same_at_first r h.3 in
        let left = flushes_leave c f s old.config before.table r z_table alone.0 in (
          left.1,
          came h.0 h.1 h.2 _ (λ _. left.1) left.0 alone.0 alone.1
              (flushes_later _ (steps_go_on c.workers c.token) f s old.config before.table z_table r alone.0) left.2,
        )

    pub freed : (max : ℕ) (r : Reclaimed)
        → Commands SharedDid old m new z (λ c x z. Frees (by_writer does_in c) x max r z)
        → Came (λ o x y. Frees (by_steps o) x.table max r y.table) (λ x. take r.freed x.table.limbo)
    unfolding by_steps
    freed max r told =
        let h = told c v.writer_steps first rested in
        let z_table = (then h.0 h.1 h.2).table in
        let alone = frees_alone LentSeat does_in c FixedPart fixed_part stays same f s old.config before_traced
        (after_traced h.0) same_at_first max r h.3 in
        came h.0 h.1 h.2 _ (λ x. take r.freed x.table.limbo) 0 alone.0 alone.1
        (frees_later _ (steps_go_on c.workers c.token) before.table z_table max r alone.0)
        (reclaims_leave c v.writer_steps h.0 max before.table.limbo r.freed r.stopped z_table.limbo alone.0.0)
