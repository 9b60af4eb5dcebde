-- The workers take their turns up to the writer's next item, or up to the schedule's end.
use Rattle.std.proofs.Common.{ℕ, map, ◌≡◌, ◌≢◌, suc, ◌<◌, ◌≤◌, inl, inr, cond, List, [], ◌∷◌, ◌++◌, length, refl, sym, ap, subst, ◌∙◌, arith, Option, Some, None, ◌↔◌, Bool, true, false}
use Rattle.interleave.specs.declared.world_memory.WorldMemory.TheInside.{Inside}
use Rattle.interleave.specs.View.{WorldView, script_at}
use Rattle.std.proofs.lemmas.Bool.{cases_lt}
use Rattle.lpm_trace.specs.declared.shown_step.Actor.TheVariants.{Writer as WriterActor}
use Rattle.lpm_trace.specs.declared.step.WriterStep.{WriterStep}
use Rattle.lpm_trace.specs.declared.step.TraceStep.{TraceStep}
use Rattle.lpm_trace.specs.declared.step.TraceStep.TheVariants.{Writer, Worker as ByWorker}
use Rattle.lpm_trace.specs.States.{InitialState}
use Rattle.lpm_trace.specs.Trace.{IsTrace, writes}
use Rattle.interleave.specs.Scripts.{AreOf, steps_by}
use Rattle.interleave.specs.World.{HasEnded, IsScheduled, AreScripted, writer_items, scripts_and_schedule, IsWorld, IsDoneAfter, IsWritersTurn, WorldDid, Reaches, StaysShared, TakesTurn, IsPlayedOut, used_items, WorldDoes}
use Rattle.lpm_trace.proofs.Grace.{older_trace}
use Rattle.lpm_trace.proofs.Versions.{by_number}
use Rattle.interleave.proofs.Items.{one_each, one_at_most, items_left, items_all, items_used, used_all, makes_still}
use Rattle.interleave.proofs.WorkerTurn.{passed_by, trace_stays, turn_passes, none_beyond, FindsShown, sequence_within, recorded_does, unrecorded_does}
use Rattle.interleave.proofs.WriterSteps.{with_recorded_step, with_unrecorded_step}
use Rattle.std.specs.Prelude.{MatchBool}
use Rattle.lpm_writer.specs.Plain.{MayBeNext}

-- What a memory's fields show.

abbrev pub view_in : (first second : ℕ) → Inside first second → WorldView
view_in first second x = record {
  words = x.shared.cells;
  sequence = x.shared.sequence;
  token = x.shared.token;
  machines = x.workers.items;
  scripts = map (λ script. script.items) x.scripts.now;
  schedule = x.schedule.now;
  next = x.next;
  steps = x.steps.items;
  seen = x.seen.items;
  stopped = x.stopped;
}

pub shared_more : (v y z : WorldView) → StaysShared v y → StaysShared y z → StaysShared v z
shared_more v y z p q = q ∙ ap (λ (w : WorldView). record w { machines = z.machines; next = z.next; steps = z.steps; seen = z.seen }) p

-- where an item is left, the writer has done nothing beyond the trace
pub within : (first second : ℕ) (y : WorldView) (c : InitialState) (whole : Option (List WriterStep)) (trace : List TraceStep) (beyond : List WriterStep)
    → IsWorld first second y c whole trace beyond → y.next < length y.schedule → IsWorld first second y c whole trace []
within first second y c whole trace beyond world left =
    subst (IsWorld first second y c whole trace) (none_beyond first second y c whole trace beyond world left) world

pub reach_more : (first second : ℕ) (v y z : WorldView) → Reaches first second v y → y.next < length y.schedule → TakesTurn first second y z → Reaches first second v z
reach_more first second v y z reaches left turn c steps did =
    let now = reaches c steps did in
    let none = none_beyond first second y c None now.0 now.1 now.2 left in
    let later = turn c None now.0 (within first second y c None now.0 now.1 now.2 left) in
    (later.0, [], later.1, now.3 ∙ ap (λ xs. xs ++ writes now.0) none ∙ sym later.2)

-- each of the writer's used items has made a step
made_each : (first second : ℕ) (y : WorldView) (c : InitialState) (trace : List TraceStep) (beyond : List WriterStep) → IsWorld first second y c None trace beyond
    → length (writes trace) ≡ writer_items (used_items y.schedule y.next)
made_each first second y c trace beyond world = one_each (length y.scripts) (script_at y.scripts) (used_items y.schedule y.next) trace world.made

pub some_left : (first second : ℕ) (y : WorldView) (c : InitialState) (steps : List WriterStep) → WorldDid first second y c steps → IsWritersTurn y → length steps < writer_items y.schedule
some_left first second y c steps did turn =
    let none = none_beyond first second y c None did.0 did.1 did.2 turn.left in
    let same : length steps ≡ length (writes did.0) = ap length (did.3 ∙ ap (λ xs. xs ++ writes did.0) none) in
    omega (arith, same, made_each first second y c did.0 did.1 did.2, items_left y.schedule y.next turn.left turn.item)

at_least : (xs ys : List WriterStep) → length ys ≤ length (xs ++ ys)
at_least [] ys = omega arith
at_least (x ∷ xs) ys = omega (arith, at_least xs ys)

pub none_left : (first second : ℕ) (y : WorldView) (c : InitialState) (steps : List WriterStep) → WorldDid first second y c steps → y.next ≡ length y.schedule → writer_items y.schedule ≤ length steps
none_left first second y c steps did all =
    let same : length steps ≡ length (did.1 ++ writes did.0) = ap length did.3 in
    omega (arith, same, at_least did.1 (writes did.0), made_each first second y c did.0 did.1 did.2, items_all y.schedule y.next all)

-- ---- the rest of the turns

-- the writer's steps are made, whatever they were, and the workers go on taking their turns
abbrev pub PlaysOn : ℕ → ℕ → WorldView → WorldView → Type 0
PlaysOn first second v z = (c : InitialState) (steps : List WriterStep) → WorldDid first second v c steps
    → (trace : List TraceStep) × (beyond : List WriterStep)
    × IsWorld first second z c (Some steps) trace beyond × (steps ≡ beyond ++ writes trace)
    × (beyond ≢ [] → length (writes trace) ≡ writer_items z.schedule)

pub plays_start : (first second : ℕ) (v : WorldView) → PlaysOn first second v v
plays_start first second v c steps did =
    let world = did.2 in (
      did.0,
      did.1,
      trace_stays first second v c None (Some steps) did.0 did.1 v.next world
          (makes_still (length v.scripts) (script_at v.scripts) (IsDoneAfter None) (IsDoneAfter (Some steps)) (λ earlier never. absurd never) (used_items v.schedule v.next) did.0 world.made) world.at_end,
      did.3,
      λ some. made_each first second v c did.0 did.1 world ∙ items_all v.schedule v.next (world.at_end some),
    )

pub plays_turn : (first second : ℕ) (v y z : WorldView) → PlaysOn first second v y → y.next < length y.schedule → TakesTurn first second y z → PlaysOn first second v z
plays_turn first second v y z plays left turn c steps did =
    let now = plays c steps did in
    let none = none_beyond first second y c (Some steps) now.0 now.1 now.2 left in
    let later = turn c (Some steps) now.0 (within first second y c (Some steps) now.0 now.1 now.2 left) in
    (later.0, [], later.1, now.3 ∙ ap (λ xs. xs ++ writes now.0) none ∙ sym later.2, λ some. absurd (some refl))

-- an item of the writer, which has no step left
pub plays_pass : (first second : ℕ) (v y : WorldView) (next : ℕ) → next ≡ suc y.next → PlaysOn first second v y → IsWritersTurn y → PlaysOn first second v (passed_by y next)
plays_pass first second v y next more plays turn c steps did =
    let now = plays c steps did in
    let none = none_beyond first second y c (Some steps) now.0 now.1 now.2 turn.left in
    let same : steps ≡ writes now.0 = now.3 ∙ ap (λ xs. xs ++ writes now.0) none in (
      now.0,
      [],
      turn_passes first second y c (Some steps) now.0 WriterActor next more turn.left (turn.item WriterActor) (sym same)
          (within first second y c (Some steps) now.0 now.1 now.2 turn.left),
      same,
      λ some. absurd (some refl),
    )

-- ---- the end

-- a worker that isn't there makes no step
no_steps : (c : InitialState) (k : ℕ) → c.workers ≤ k → (trace : List TraceStep) → IsTrace c trace → steps_by k trace ≡ []
no_steps c k out [] may = refl
no_steps c k out (Writer s ∷ trace) may = no_steps c k out trace may.1
no_steps c k out (ByWorker j s ∷ trace) may = by_number (λ b. cond b (s ∷ steps_by k trace) (steps_by k trace) ≡ []) k j
    (λ h. absurd (omega (arith, out, h.1, may.0.0)))
    (λ h. no_steps c k out trace may.1)

scripted : (first second : ℕ) (z : WorldView) (c : InitialState) (whole : Option (List WriterStep)) (trace : List TraceStep) (beyond : List WriterStep)
    → IsWorld first second z c whole trace beyond → AreScripted (script_at z.scripts) trace
scripted first second z c whole trace beyond world k = elim (cases_lt k (length z.scripts)) [
  | inl inside ↦ let here = (world.at k inside).2 in record { begun = here.begun; left = here.left; cut = here.cut; made = here.made }
  | inr out ↦ record {
    begun = [];
    left = script_at z.scripts k;
    cut = refl;
    made = subst (AreOf []) (sym (no_steps c k (omega (arith, out, world.workers)) trace (older_trace c (map Writer beyond) trace world.may_come))) refl;
  }
]

pub plays_end : (first second : ℕ) (v z : WorldView) → PlaysOn first second v z → z.next ≡ length z.schedule → (c : InitialState) (steps : List WriterStep) → WorldDid first second v c steps
    → IsPlayedOut c z.scripts z.schedule steps z.steps z.seen
plays_end first second v z plays all c steps did =
    let now = plays c steps did in
    let world = now.2 in
    let every = used_all z.schedule z.next all in
    record {
      trace = now.0;
      beyond = now.1;
      split = now.3;
      may_come = world.may_come;
      few = omega (
        arith,
        one_at_most (length z.scripts) (script_at z.scripts) (IsDoneAfter (Some steps)) (used_items z.schedule z.next) now.0 world.made,
        items_all z.schedule z.next all,
      );
      at_end = now.4;
      made = subst (λ items. IsScheduled (HasEnded (length z.scripts) (script_at z.scripts) (IsDoneAfter (Some steps))) items now.0) every world.made;
      scripted = scripted first second z c (Some steps) now.0 now.1 world;
      shown = world.shown;
      finished = world.finished;
    }

-- ---- whether the schedule ended before the writer's last step

-- the scripts and the schedule stay where the workers take turns
pub scripts_stay : (v z : WorldView) → StaysShared v z → scripts_and_schedule z ≡ scripts_and_schedule v
scripts_stay v z stays = ap scripts_and_schedule stays

no_both : (b : Bool) → b ≡ true → b ≡ false → ⊥
no_both b is_true is_false = cc

pub stopped_late : (first second : ℕ) (v : WorldView) (c : InitialState) (steps : List WriterStep) → WorldDid first second v c steps
    → v.stopped ≡ true ↔ (writer_items v.schedule < length steps)
stopped_late first second v c steps did = go did.1 did.2 did.3
  where
    go : (beyond : List WriterStep) → IsWorld first second v c None did.0 beyond → steps ≡ beyond ++ writes did.0 → v.stopped ≡ true ↔ (writer_items v.schedule < length steps)
    go [] world is = (
      (λ stopped. absurd (no_both v.stopped stopped (world.in_time refl))),
      (λ late. absurd (omega (arith, late, ap length is, made_each first second v c did.0 [] world, items_used v.schedule v.next))),
    )
    go (s ∷ beyond) world is = (
      (λ stopped. omega (arith, ap length is, at_least beyond (writes did.0), made_each first second v c did.0 (s ∷ beyond) world, items_all v.schedule v.next (world.at_end (λ e. cc)))),
      (λ late. world.late (λ e. cc)),
    )

-- A step of the writer, where the workers took their turns before it.

-- the step was recorded where an item was left for it
pub step_does : {first second : ℕ} {v y z : WorldView} (s : WriterStep) (found : Bool) → StaysShared v y
    → Reaches first second v y → MatchBool found (IsWritersTurn y) (y.next ≡ length y.schedule) → FindsShown y s
    → (y.next < length y.schedule → z ≡ with_recorded_step y s)
    → (y.next ≡ length y.schedule → z ≡ with_unrecorded_step y s) → WorldDoes first second s v z
step_does {first} {second} {v} {y} {z} s true shared reaches turn finds left ended =
    recorded_does first second v y z s (scripts_stay v y shared) reaches turn finds (left turn.left)
step_does {first} {second} {v} {y} {z} s false shared reaches all finds left ended =
    unrecorded_does first second v y z s (scripts_stay v y shared) reaches all finds (ended all)

-- the same where the fields of the memory show y
pub step_does_in : {first second : ℕ} {v x : WorldView} (y : WorldView) {z : WorldView} (s : WriterStep) (found : Bool)
    → y ≡ x → StaysShared v x → Reaches first second v x
    → MatchBool found (IsWritersTurn x) (x.next ≡ length x.schedule) → FindsShown y s
    → (y.next < length y.schedule → z ≡ with_recorded_step y s)
    → (y.next ≡ length y.schedule → z ≡ with_unrecorded_step y s) → WorldDoes first second s v z
step_does_in {first} {second} {v} y s found is shared reaches at finds left ended = step_does s found
    (subst (StaysShared v) (sym is) shared) (subst (Reaches first second v) (sym is) reaches)
    (subst (λ (y : WorldView). MatchBool found (IsWritersTurn y) (y.next ≡ length y.schedule)) (sym is) at)
    finds left ended

-- the sequence is no greater than the number of the next item
pub sequence_low : {first second : ℕ} {v y : WorldView} (s : WriterStep) → MayBeNext (WorldDid first second) v s
    → Reaches first second v y → y.sequence ≤ y.next
sequence_low {first} {second} {v} {y} s may reaches =
    let now = reaches may.0 may.1 may.2 in sequence_within first second y may.0 None now.0 now.1 now.2
