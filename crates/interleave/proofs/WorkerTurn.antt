-- A worker's turn.
use Rattle.std.proofs.Common.{◌≡◌, ◌≢◌, ℕ, suc, ◌+◌, ◌*◌, ◌/◌, ◌%◌, ◌^◌, slice_index, ◌<◌, ◌≤◌, vec_len, inl, inr, cond, List, [], ◌∷◌, ◌++◌, length, map, reverse, get_or, refl, sym, ap, subst, ◌∙◌, arith, add-one, get_or-set_same, get_or-set_other, Option, None}
use Rattle.std.specs.Prelude.{slice_set, ⊤}
use Rattle.std.proofs.lemmas.List.{length-set, length-append, length-map, length-reverse, append-nil}
use Rattle.std.proofs.lemmas.Bool.Decides.{eqb_tells}
use Rattle.lpm_cells.specs.Words.{Words, with_first, with_second}
use Rattle.lpm_trace.specs.declared.shown_step.Actor.{Actor}
use Rattle.lpm_trace.specs.declared.shown_step.Actor.TheVariants.{Worker as WorkerActor, Writer as WriterActor}
use Rattle.lpm_trace.specs.declared.deed.Deed.{Deed}
use Rattle.lpm_trace.specs.declared.shown_step.Step.{Step}
use Rattle.lpm_trace.specs.declared.step.WriterStep.{WriterStep}
use Rattle.lpm_trace.specs.declared.step.WriterStep.TheVariants.{StoreFirst, StoreSecond, BeginUpdate, EndUpdate, BumpToken, LoadCounter}
use Rattle.lpm_trace.specs.declared.step.WorkerStep.{WorkerStep}
use Rattle.lpm_trace.specs.declared.step.TraceStep.{TraceStep}
use Rattle.lpm_trace.specs.declared.step.TraceStep.TheVariants.{Worker as ByWorker, Writer}
use Rattle.lpm_trace.specs.States.{InitialState, TableState, state_after, begun_at}
use Rattle.lpm_trace.specs.declared.step.WorkerStep.TheVariants.{LoadOnline, LoadQuiescent, BeginLookup, LoadFirst, LoadSecond, EndLookup, MeetWriter}
use Rattle.lpm_trace.specs.Trace.{Worker, Probe, Unread, InGroup, Answered, FinishedLookup, with_answers, worker_by_step, MayRead, after, MayCome, writes, worker_of, IsNextFirst, IsNextSecond, AreBegun, AreAnswered, IsBetweenDeeds}
use Rattle.lpm_trace.proofs.Traces.{state_is}
use Rattle.interleave.specs.declared.finished_lookups.Seen.{Seen}
use Rattle.interleave.specs.declared.worker.Worker.{Worker as Machine}
use Rattle.interleave.specs.Machine.{IsAt, IsOf, IsNoted, Advances, probe_of, Shows}
use Rattle.interleave.specs.Scripts.{steps_by}
use Rattle.interleave.specs.Record.{finished_by, seen_by, all_shown, all_seen, shown_write}
use Rattle.interleave.specs.World.{HasEnded, IsScheduled, IsWorld, IsDoneAfter, AreAt, used_items, scripts_and_schedule, IsWritersTurn, WorldDoes, Reaches, with_beyond}
use Rattle.interleave.specs.View.{WorldView, script_at}
use Rattle.interleave.proofs.Items.{used_more, used_few, one_at_most}
use Rattle.interleave.proofs.WriterSteps.{words_by, token_by, sequence_by, with_recorded_step, with_unrecorded_step}
use Rattle.lpm_trace.proofs.Moments.{ProbesAgree, Agrees, clocks_agree}
use Rattle.lpm_trace.specs.Writer.{MayStep, Finds}
use Rattle.lpm_trace.proofs.Checks.{writer_goes_on}
use Rattle.interleave.specs.WorldLaws.{writes_beyond}

-- ---- which step of a worker may come next, by the two clocks

module _ (c : InitialState) (steps : List TraceStep) (w : TableState) where
  first_by_place : (word : ℕ) (ps qs : List Probe) → ProbesAgree steps ps qs → IsNextFirst c w word qs → IsNextFirst c w word ps
  first_by_place word (Unread a ∷ ps) (Unread b ∷ qs) z next = subst (λ x. word ≡ slice_index w.words.firsts (x / 2 ^ c.second)) (sym z.0) next
  first_by_place word (InGroup a g f ∷ ps) (InGroup b h n ∷ qs) z next = first_by_place word ps qs z.1 next
  first_by_place word (Answered a x f l ∷ ps) (Answered b y m n ∷ qs) z next = first_by_place word ps qs z.1 next
  first_by_place word [] [] z next = next
  first_by_place word _ _ z next = absurd z

  second_by_place : (word : ℕ) (ps qs : List Probe) → ProbesAgree steps ps qs → IsNextSecond c w word qs → IsNextSecond c w word ps
  second_by_place word (InGroup a g f ∷ ps) (InGroup b h n ∷ qs) z next =
      subst (λ x. word ≡ slice_index w.words.seconds (g * 2 ^ c.second + x % 2 ^ c.second)) (sym z.0.0)
      (subst (λ x. word ≡ slice_index w.words.seconds (x * 2 ^ c.second + b % 2 ^ c.second)) (sym z.0.1) next)
  second_by_place word (Answered a x f l ∷ ps) (Answered b y m n ∷ qs) z next = second_by_place word ps qs z.1 next
  second_by_place word [] [] z next = next
  second_by_place word (Unread a ∷ ps) (Unread b ∷ qs) z next = next
  second_by_place word _ _ z next = absurd z

  begun_by_place : (ps qs : List Probe) → ProbesAgree steps ps qs → AreBegun qs → AreBegun ps
  begun_by_place (InGroup a g f ∷ ps) (InGroup b h n ∷ qs) z begun = begun_by_place ps qs z.1 begun
  begun_by_place (Answered a x f l ∷ ps) (Answered b y m n ∷ qs) z begun = begun_by_place ps qs z.1 begun
  begun_by_place [] [] z begun = begun
  begun_by_place (Unread a ∷ ps) (Unread b ∷ qs) z begun = begun
  begun_by_place _ _ z begun = absurd z

  answered_by_place : (ps qs : List Probe) → ProbesAgree steps ps qs → AreAnswered qs → AreAnswered ps
  answered_by_place (Answered a x f l ∷ ps) (Answered b y m n ∷ qs) z all = answered_by_place ps qs z.1 all
  answered_by_place [] [] z all = all
  answered_by_place (Unread a ∷ ps) (Unread b ∷ qs) z all = all
  answered_by_place (InGroup a g f ∷ ps) (InGroup b h n ∷ qs) z all = all
  answered_by_place _ _ z all = absurd z

  may_by_place : (p n : Worker) → Agrees steps p n → (s : WorkerStep) → MayRead c w n s → MayRead c w p s
  may_by_place p n h (LoadOnline token) may = (h.phase ∙ may.0, may.1)
  may_by_place p n h (LoadQuiescent token) may = (h.phase ∙ may.0, may.1)
  may_by_place p n h (BeginLookup addrs sequence) may = (h.phase ∙ may.0, may.1, may.2)
  may_by_place p n h (LoadFirst word) may = (h.phase ∙ may.0, first_by_place word p.probes n.probes h.probes may.1)
  may_by_place p n h (LoadSecond word) may =
      (h.phase ∙ may.0, begun_by_place p.probes n.probes h.probes may.1, second_by_place word p.probes n.probes h.probes may.2)
  may_by_place p n h (EndLookup sequence) may = (h.phase ∙ may.0, answered_by_place p.probes n.probes h.probes may.1, may.2)
  may_by_place p n h (MeetWriter sequence) may = (subst IsBetweenDeeds (sym h.phase) may.0, may.1)
  may_by_place p n h s may = h.phase ∙ may

-- there are as many second words as there were at the beginning
seconds_stay : (c : InitialState) (steps : List WriterStep) → length (state_after c steps).words.seconds ≡ length c.words.seconds
seconds_stay c [] = refl
seconds_stay c (StoreSecond j x ∷ steps) = length-set (state_after c steps).words.seconds j x ∙ seconds_stay c steps
seconds_stay c (s ∷ steps) = seconds_stay c steps

shown_steps : (c : InitialState) (steps : List TraceStep) → length (all_shown c steps) ≡ length steps
shown_steps c [] = refl
shown_steps c (s ∷ steps) = length-append (all_shown c steps) _ ∙ add-one (length (all_shown c steps)) ∙ ap suc (shown_steps c steps)

-- the workers where worker k, which is m now, has made one more step
at_moved : (first second seconds : ℕ) (machines : List Machine) (scripts : List (List Deed)) (steps : List TraceStep) (k : ℕ) (s : WorkerStep) (m : Machine)
    → AreAt first second seconds machines scripts steps → k < length machines
    → IsAt first second seconds m (script_at scripts k) (worker_by_step (suc (length steps)) (worker_of k steps) s) (s ∷ steps_by k steps)
    → AreAt first second seconds (slice_set machines k m) scripts (ByWorker k s ∷ steps)
at_moved first second seconds machines scripts steps k s m at inside here = λ j lt. elim (eqb_tells j k) [
  | inl h ↦ (
    m,
    λ other. ap (λ i. get_or (slice_set machines k m) i other) h.1 ∙ get_or-set_same machines k m other inside,
    subst (λ b. IsAt first second seconds m (script_at scripts j) (cond b (worker_by_step (suc (length steps)) (worker_of j steps) s) (worker_of j steps)) (cond b (s ∷ steps_by j steps) (steps_by j steps))) (sym h.0)
        (subst (λ i. IsAt first second seconds m (script_at scripts i) (worker_by_step (suc (length steps)) (worker_of i steps) s) (s ∷ steps_by i steps)) (sym h.1) here),
  )
  | inr h ↦
      let was = at j lt in (
        was.0,
        λ other. get_or-set_other machines k j m other h.1 ∙ was.1 other,
        subst (λ b. IsAt first second seconds was.0 (script_at scripts j) (cond b (worker_by_step (suc (length steps)) (worker_of j steps) s) (worker_of j steps)) (cond b (s ∷ steps_by j steps) (steps_by j steps))) (sym h.0) was.2,
      )
]

-- the memory after a turn that made no step
abbrev pub passed_by : WorldView → ℕ → WorldView
passed_by v next = record v { next = next }

-- the memory after a turn that made this step
abbrev pub moved_by : WorldView → ℕ → ℕ → Machine → Step → List Seen → WorldView
moved_by v next k m step seen = record v {
  machines = slice_set v.machines k m;
  next = next;
  steps = v.steps ++ step ∷ [];
  seen = seen;
}

-- where the items up to the next one have made the same trace
pub trace_stays : (first second : ℕ) (v : WorldView) (c : InitialState) (was whole : Option (List WriterStep)) (trace : List TraceStep) (beyond : List WriterStep) (next : ℕ) → IsWorld first second v c was trace beyond
    → IsScheduled (HasEnded (length v.scripts) (script_at v.scripts) (IsDoneAfter whole)) (used_items v.schedule next) trace → (beyond ≢ [] → next ≡ length v.schedule)
    → IsWorld first second (passed_by v next) c whole trace beyond
trace_stays first second v c was whole trace beyond next world made at_end = record {
  first_bits = world.first_bits;
  second_bits = world.second_bits;
  workers = world.workers;
  may_come = world.may_come;
  words_are = world.words_are;
  token_is = world.token_is;
  sequence_is = world.sequence_is;
  made = made;
  shown = world.shown;
  finished = world.finished;
  at = world.at;
  at_end = at_end;
  late = world.late;
  in_time = world.in_time;
}

pub turn_passes : (first second : ℕ) (v : WorldView) (c : InitialState) (whole : Option (List WriterStep)) (trace : List TraceStep) (item : Actor) (next : ℕ) → next ≡ suc v.next
    → v.next < length v.schedule → get_or v.schedule v.next item ≡ item
    → HasEnded (length v.scripts) (script_at v.scripts) (IsDoneAfter whole) item trace
    → IsWorld first second v c whole trace [] → IsWorld first second (passed_by v next) c whole trace []
turn_passes first second v c whole trace item next more left is ended world =
    trace_stays first second v c whole whole trace [] next world
    (subst (λ items. IsScheduled (HasEnded (length v.scripts) (script_at v.scripts) (IsDoneAfter whole)) items trace) (sym (ap (used_items v.schedule) more ∙ used_more v.schedule v.next item left is)) (inl (ended, world.made)))
    (λ some. absurd (some refl))

-- the state that the workers read
pub is_of : (first second : ℕ) (v : WorldView) (c : InitialState) (whole : Option (List WriterStep)) (trace : List TraceStep) → IsWorld first second v c whole trace []
    → IsOf first second v.words v.sequence v.token c (state_after c (writes trace))
is_of first second v c whole trace world = record {
  first_width = world.first_bits;
  second_width = world.second_bits;
  words_are = sym world.words_are;
  sequence_is = sym world.sequence_is;
  token_is = sym world.token_is;
}

words_of : (first second : ℕ) (v : WorldView) (c : InitialState) (whole : Option (List WriterStep)) (trace : List TraceStep) → IsWorld first second v c whole trace []
    → length v.words.seconds ≡ length c.words.seconds
words_of first second v c whole trace world = ap (λ (x : Words). length x.seconds) world.words_are ∙ seconds_stay c (writes trace)

-- where a worker stands
pub stands : (first second : ℕ) (v : WorldView) (c : InitialState) (whole : Option (List WriterStep)) (trace : List TraceStep) → IsWorld first second v c whole trace []
    → (k : ℕ) (m other : Machine) (script : List Deed) → k < length v.scripts → m ≡ get_or v.machines k other → script ≡ script_at v.scripts k
    → IsAt first second (length v.words.seconds) m script (worker_of k trace) (steps_by k trace)
stands first second v c whole trace world k m other script inside is same =
    let here = world.at k inside in
    subst (λ n. IsAt first second n m script (worker_of k trace) (steps_by k trace)) (sym (words_of first second v c whole trace world))
    (subst (λ x. IsAt first second (length c.words.seconds) x script (worker_of k trace) (steps_by k trace)) (sym (is ∙ here.1 other))
    (subst (λ x. IsAt first second (length c.words.seconds) here.0 x (worker_of k trace) (steps_by k trace)) (sym same) here.2))

-- a step finishes at most one lookup for each address
answers_few : (lo hi : ℕ) (ps : List Probe) (xs : List FinishedLookup) → length (with_answers lo hi ps xs) ≤ length ps + length xs
answers_few lo hi [] xs = omega arith
answers_few lo hi (Answered a h f l ∷ ps) xs = omega (arith, answers_few lo hi ps (record { addr = a; hop = h; first = f; last = l; lo = lo; hi = hi } ∷ xs))
answers_few lo hi (p ∷ ps) xs = omega (arith, answers_few lo hi ps xs)

finished_few : (r : Worker) (s : WorkerStep) → length (finished_by r s) ≤ length r.probes
finished_few r (EndLookup sequence) = omega (arith, answers_few r.lo (begun_at sequence) r.probes [])
finished_few r s = omega arith

-- a step finishes at most four lookups
pub four_at_most : (first second seconds : ℕ) (m : Machine) (script : List Deed) (r : Worker) (own : List WorkerStep) (k : ℕ) (s : WorkerStep) (before later : List Seen)
    → IsAt first second seconds m script r own → IsNoted k r s before later → length later ≤ length before + 4
four_at_most first second seconds m script r own k s before later at noted =
    let probes : length r.probes ≡ length m.probes.items = ap length at.shows.probes ∙ length-map m.probes.items probe_of in
    let len : vec_len m.probes ≡ length m.probes.items = m.probes.ok.0 in
    let more : length later ≡ length before + length (finished_by r s) =
    ap length noted
    ∙ length-append before (reverse (map (seen_by k) (finished_by r s)))
    ∙ ap (λ n. length before + n) (length-reverse (map (seen_by k) (finished_by r s)) ∙ length-map (finished_by r s) (seen_by k)) in
    omega (arith, probes, len, more, finished_few r s, at.few)

pub turn_moves : (first second : ℕ) (v : WorldView) (c : InitialState) (whole : Option (List WriterStep)) (trace : List TraceStep) (k next now : ℕ) (script : List Deed) (m : Machine) (step : Step) (seen : List Seen)
    → next ≡ suc v.next → now ≡ suc (length v.steps) → script ≡ script_at v.scripts k
    → v.next < length v.schedule → get_or v.schedule v.next (WorkerActor k) ≡ WorkerActor k → k < length v.scripts → length v.machines ≡ length v.scripts
    → IsWorld first second v c whole trace []
    → Advances first second (length v.words.seconds) c (state_after c (writes trace)) k now script (worker_of k trace) (steps_by k trace) m step v.seen seen
    → (later : List TraceStep) × IsWorld first second (moved_by v next k m step seen) c whole later [] × (writes later ≡ writes trace)
turn_moves first second v c whole trace k next now script m step seen more when same left is inside as_many world adv =
    let s : WorkerStep = adv.made in
    let later : List TraceStep = ByWorker k s ∷ trace in
    let machines : k < length v.machines = omega arith in
    let time : now ≡ suc (length trace) = when ∙ ap suc (ap length world.shown ∙ shown_steps c trace) in
    let read : MayRead c (state_after c (writes trace)) ((after c trace).workers k) s = may_by_place c trace (state_after c (writes trace)) ((after c trace).workers k) (worker_of k trace) (clocks_agree c trace k) s adv.may in
    let may : MayCome c (after c trace) (ByWorker k s) = (subst (λ n. k < n) (sym world.workers) inside, subst (λ w. MayRead c w ((after c trace).workers k) s) (sym (state_is c trace)) read) in (
      later,
      record {
        first_bits = world.first_bits;
        second_bits = world.second_bits;
        workers = world.workers;
        may_come = (may, world.may_come);
        words_are = world.words_are;
        token_is = world.token_is;
        sequence_is = world.sequence_is;
        made = subst (λ items. IsScheduled (HasEnded (length v.scripts) (script_at v.scripts) (IsDoneAfter whole)) items later) (sym (ap (used_items v.schedule) more ∙ used_more v.schedule v.next (WorkerActor k) left is)) (inr (ByWorker k s, trace, refl, refl, world.made));
        shown = ap (λ xs. xs ++ step ∷ []) world.shown ∙ ap (λ x. all_shown c trace ++ x ∷ []) adv.shown;
        finished = adv.noted ∙ ap (λ xs. xs ++ reverse (map (seen_by k) (finished_by (worker_of k trace) s))) world.finished;
        at = at_moved first second (length c.words.seconds) v.machines v.scripts trace k s m world.at machines
            (subst (λ n. IsAt first second n m (script_at v.scripts k) (worker_by_step (suc (length trace)) (worker_of k trace) s) (s ∷ steps_by k trace)) (words_of first second v c whole trace world)
            (subst (λ x. IsAt first second (length v.words.seconds) m x (worker_by_step (suc (length trace)) (worker_of k trace) s) (s ∷ steps_by k trace)) same
            (subst (λ n. IsAt first second (length v.words.seconds) m script (worker_by_step n (worker_of k trace) s) (s ∷ steps_by k trace)) time adv.at)));
        at_end = λ some. absurd (some refl);
        late = λ some. absurd (some refl);
        in_time = world.in_time;
      },
      refl,
    )

-- A step of the writer, recorded or after the schedule's end.

-- ---- what a step leaves

words_after : (c : InitialState) (t : Words) (s : WriterStep) (steps : List WriterStep) → t ≡ (state_after c steps).words → words_by t s ≡ (state_after c (s ∷ steps)).words
words_after c t (StoreFirst i x) steps e = ap (λ y. with_first y i x) e
words_after c t (StoreSecond j x) steps e = ap (λ y. with_second y j x) e
words_after c t s steps e = e

token_after : (c : InitialState) (n : ℕ) (s : WriterStep) (steps : List WriterStep) → n ≡ (state_after c steps).token → token_by n s ≡ (state_after c (s ∷ steps)).token
token_after c n BumpToken steps e = ap suc e
token_after c n s steps e = e

sequence_after : (c : InitialState) (n : ℕ) (s : WriterStep) (steps : List WriterStep) → n ≡ (state_after c steps).sequence → sequence_by n s ≡ (state_after c (s ∷ steps)).sequence
sequence_after c n (BeginUpdate change) steps e = ap suc e
sequence_after c n EndUpdate steps e = ap suc e
sequence_after c n s steps e = e

-- the sequence counts no more than the steps of the writer
sequence_few : (c : InitialState) (steps : List WriterStep) → (state_after c steps).sequence ≤ length steps
sequence_few c [] = omega arith
sequence_few c (StoreFirst i x ∷ steps) = omega (arith, sequence_few c steps)
sequence_few c (s ∷ steps) = omega (arith, sequence_few c steps)

-- the sequence counts at most the items that are used up
pub sequence_within : (first second : ℕ) (v : WorldView) (c : InitialState) (whole : Option (List WriterStep)) (trace : List TraceStep) (beyond : List WriterStep)
    → IsWorld first second v c whole trace beyond → v.sequence ≤ v.next
sequence_within first second v c whole trace beyond world = omega (
  arith,
  world.sequence_is,
  sequence_few c (writes trace),
  one_at_most (length v.scripts) (script_at v.scripts) (IsDoneAfter whole) (used_items v.schedule v.next) trace world.made,
  used_few v.schedule v.next,
)

-- ---- the counters

-- a load finds what the worker's own state tells
abbrev pub FindsShown : WorldView → WriterStep → Type 0
FindsShown v (LoadCounter token worker counter) = (other : Machine)
    × ((r : Worker) → Shows (get_or v.machines worker other) r → counter ≡ r.counter)
FindsShown v other = ⊤

workers_beyond : (c : InitialState) (beyond : List WriterStep) (trace : List TraceStep) → (after c (with_beyond beyond trace)).workers ≡ (after c trace).workers
workers_beyond c [] trace = refl
workers_beyond c (s ∷ beyond) trace = workers_beyond c beyond trace

finds : (first second : ℕ) (v : WorldView) (c : InitialState) (whole : Option (List WriterStep)) (trace : List TraceStep) (beyond : List WriterStep) (s : WriterStep)
    → IsWorld first second v c whole trace beyond → MayStep c (beyond ++ writes trace) s → FindsShown v s → Finds c (with_beyond beyond trace) s
finds first second v c whole trace beyond (LoadCounter token worker counter) world may found =
    let inside : worker < length v.scripts = subst (λ n. worker < n) world.workers may.0.1 in
    let here = world.at worker inside in
    found.1 (worker_of worker trace) (subst (λ m. Shows m (worker_of worker trace)) (sym (here.1 found.0)) here.2.shows)
    ∙ sym (clocks_agree c trace worker).counter
    ∙ ap (λ f. (f worker).counter) (sym (workers_beyond c beyond trace))
finds first second v c whole trace beyond s world may found = tt

-- ---- a step that is recorded, and one after the schedule's end

-- nothing was done beyond the schedule's end, where an item is left
pub none_beyond : (first second : ℕ) (v : WorldView) (c : InitialState) (whole : Option (List WriterStep)) (trace : List TraceStep) (beyond : List WriterStep)
    → IsWorld first second v c whole trace beyond → v.next < length v.schedule → beyond ≡ []
none_beyond first second v c whole trace [] world left = refl
none_beyond first second v c whole trace (s ∷ beyond) world left = absurd (let all = world.at_end (λ e. cc) in omega (arith, all, left))

recorded_world : (first second : ℕ) (v : WorldView) (c : InitialState) (trace : List TraceStep) (s : WriterStep)
    → IsWorld first second v c None trace [] → IsWritersTurn v → MayStep c (writes trace) s → Finds c trace s
    → IsWorld first second (with_recorded_step v s) c None (Writer s ∷ trace) []
recorded_world first second v c trace s world turn may found = record {
  first_bits = world.first_bits;
  second_bits = world.second_bits;
  workers = world.workers;
  may_come = writer_goes_on c trace s world.may_come may found;
  words_are = words_after c v.words s (writes trace) world.words_are;
  token_is = token_after c v.token s (writes trace) world.token_is;
  sequence_is = sequence_after c v.sequence s (writes trace) world.sequence_is;
  made = subst (λ items. IsScheduled (HasEnded (length v.scripts) (script_at v.scripts) (IsDoneAfter None)) items (Writer s ∷ trace)) (sym (used_more v.schedule v.next WriterActor turn.left (turn.item WriterActor)))
      (inr (Writer s, trace, refl, tt, world.made));
  shown = ap (λ xs. xs ++ shown_write v.sequence v.token s ∷ []) world.shown ∙ ap (λ x. all_shown c trace ++ x ∷ []) one;
  finished = world.finished ∙ sym (append-nil (all_seen trace));
  at = world.at;
  at_end = λ some. absurd (some refl);
  late = λ some. absurd (some refl);
  in_time = world.in_time;
}
  where
    one : shown_write v.sequence v.token s ≡ shown_write (after c trace).state.sequence (after c trace).state.token s
    one =
        ap (λ n. shown_write n v.token s) world.sequence_is
        ∙ ap (λ n. shown_write (state_after c (writes trace)).sequence n s) world.token_is
        ∙ ap (λ w. shown_write w.sequence w.token s) (sym (state_is c trace))

some_beyond : (s : WriterStep) (beyond : List WriterStep) → s ∷ beyond ≡ [] → ⊥
some_beyond s beyond e = cc

unrecorded_world : (first second : ℕ) (v : WorldView) (c : InitialState) (trace : List TraceStep) (beyond : List WriterStep) (s : WriterStep)
    → IsWorld first second v c None trace beyond → v.next ≡ length v.schedule → MayStep c (beyond ++ writes trace) s → Finds c (with_beyond beyond trace) s
    → IsWorld first second (with_unrecorded_step v s) c None trace (s ∷ beyond)
unrecorded_world first second v c trace beyond s world all may found = record {
  first_bits = world.first_bits;
  second_bits = world.second_bits;
  workers = world.workers;
  may_come = writer_goes_on c (with_beyond beyond trace) s world.may_come (subst (λ xs. MayStep c xs s) (sym (writes_beyond beyond trace)) may) found;
  words_are = words_after c v.words s (beyond ++ writes trace) world.words_are;
  token_is = token_after c v.token s (beyond ++ writes trace) world.token_is;
  sequence_is = world.sequence_is;
  made = world.made;
  shown = world.shown;
  finished = world.finished;
  at = world.at;
  at_end = λ some. all;
  late = λ some. refl;
  in_time = λ none. absurd (some_beyond s beyond none);
}

-- the workers took their turns, and the writer's step was recorded
pub recorded_does : (first second : ℕ) (v y z : WorldView) (s : WriterStep) → scripts_and_schedule y ≡ scripts_and_schedule v → Reaches first second v y → IsWritersTurn y → FindsShown y s → z ≡ with_recorded_step y s → WorldDoes first second s v z
recorded_does first second v y z s still reaches turn found is = (
  ap scripts_and_schedule is ∙ still,
  λ c steps did may.
      let now = reaches c steps did in
      let none : now.1 ≡ [] = none_beyond first second y c None now.0 now.1 now.2 turn.left in
      let world : IsWorld first second y c None now.0 [] = subst (IsWorld first second y c None now.0) none now.2 in
      let same : steps ≡ writes now.0 = now.3 ∙ ap (λ xs. xs ++ writes now.0) none in
      let may' : MayStep c (writes now.0) s = subst (λ xs. MayStep c xs s) same may in (
        Writer s ∷ now.0,
        [],
        subst (λ x. IsWorld first second x c None (Writer s ∷ now.0) []) (sym is)
            (recorded_world first second y c now.0 s world turn may' (finds first second y c None now.0 [] s world may' found)),
        ap (λ xs. s ∷ xs) same,
      ),
)

-- the workers took the rest of their turns, and the writer's step was not recorded
pub unrecorded_does : (first second : ℕ) (v y z : WorldView) (s : WriterStep) → scripts_and_schedule y ≡ scripts_and_schedule v → Reaches first second v y → y.next ≡ length y.schedule → FindsShown y s → z ≡ with_unrecorded_step y s → WorldDoes first second s v z
unrecorded_does first second v y z s still reaches all found is = (
  ap scripts_and_schedule is ∙ still,
  λ c steps did may.
      let now = reaches c steps did in
      let may' : MayStep c (now.1 ++ writes now.0) s = subst (λ xs. MayStep c xs s) now.3 may in (
        now.0,
        s ∷ now.1,
        subst (λ x. IsWorld first second x c None now.0 (s ∷ now.1)) (sym is)
            (unrecorded_world first second y c now.0 now.1 s now.2 all may' (finds first second y c None now.0 now.1 s now.2 may' found)),
        ap (λ xs. s ∷ xs) now.3,
      ),
)
