-- What holds of every trace, by adding one step at a time, told by the number of the writer's steps.
use Rattle.std.proofs.Common.{◌≡◌, ℕ, suc, ◌/◌, ◌^◌, ◌<◌, ◌≤◌, inl, inr, false, cond, List, [], ◌∷◌, length, Option, refl, sym, ap, subst, ◌∙◌, arith, All}
use Rattle.std.proofs.lemmas.Bool.Decides.{leb_tells}
use Rattle.std.proofs.lemmas.Bool.{cases_lt}
use Rattle.lpm_trace.specs.declared.step.WriterStep.{WriterStep}
use Rattle.lpm_trace.specs.declared.step.WriterStep.TheVariants.{StoreFirst, StoreSecond, BeginUpdate, EndUpdate, BumpToken, LoadCounter}
use Rattle.lpm_trace.specs.declared.step.TraceStep.{TraceStep}
use Rattle.lpm_trace.specs.declared.step.TraceStep.TheVariants.{Writer, Worker as ByWorker}
use Rattle.lpm_trace.specs.States.{InitialState, TableState, IsSettled, addresses, with_at, answer, IsAnswer, updates_done_in, updates_begun_in, version, rules_by, state_by_step, initial_table_state, oldest, state_after, state_at, MayWrite}
use Rattle.lpm_trace.specs.Trace.{Worker, Probe, Unread, InGroup, Answered, FinishedLookup, initial_worker, worker_by_step, MayRead, MayCome, after, IsTrace, writes, own_steps, worker_by}
use Rattle.lpm_trace.specs.Laws.{IsLegalAtPlace, OwnLookupsAreLegal, ArePlaced, OwnStepsArePlaced, VersionsNeverFallAtPlaces, PlacesNeverFall, TraceGrows}
use Rattle.lpm_trace.proofs.Versions.{by_number, Each, each_map, with_at_case, each_all, Shows, keeps_shows, initial_shows, version_ge, version_le, rises, sequence_grows, history_stays, tick}
use Rattle.lpm_trace.proofs.Good.{Told, half_by, ProbeOk, FinishedOk, WorkerOk, Good, worker_moves, IsRunning}
use Rattle.lpm_trace.proofs.WriterStores.{keeps_first, keeps_second, held_not_filled, keeps_quiet, keeps_counter}
use Rattle.std.proofs.lemmas.List.Elements.{All-nil, All-cons, All-head, All-tail, All-weaker}
use Rattle.std.proofs.lemmas.List.Kept.{AllPairs-cons}
use Rattle.std.specs.List.{AllPairs}
use Rattle.lpm_trace.specs.declared.step.WorkerStep.{WorkerStep}

-- a fact of the first t members, where one more stands before
pub oldest_case : {A : Type 0} (P : List A → Type 0) (s : A) (xs : List A) (t : ℕ) → (length xs < t → P (s ∷ xs)) → (t ≤ length xs → P (oldest t xs)) → P (oldest t (s ∷ xs))
oldest_case P s xs t new old = elim (leb_tells t (length xs)) [
  | inl h ↦ subst (λ b. P (cond b (oldest t xs) (s ∷ xs))) (sym h.0) (old h.1)
  | inr h ↦ subst (λ b. P (cond b (oldest t xs) (s ∷ xs))) (sym h.0) (new h.1)
]

pub oldest_old : {A : Type 0} (s : A) (xs : List A) (t : ℕ) → t ≤ length xs → oldest t (s ∷ xs) ≡ oldest t xs
oldest_old s xs t le = oldest_case (λ l. l ≡ oldest t xs) s xs t (λ lt. absurd (omega (arith, le, lt))) (λ _. refl)

pub oldest_new : {A : Type 0} (s : A) (xs : List A) (t : ℕ) → length xs < t → oldest t (s ∷ xs) ≡ s ∷ xs
oldest_new s xs t lt = oldest_case (λ l. l ≡ s ∷ xs) s xs t (λ _. refl) (λ le. absurd (omega (arith, lt, le)))

pub oldest_all : {A : Type 0} (xs : List A) (t : ℕ) → length xs ≤ t → oldest t xs ≡ xs
oldest_all [] t le = refl
oldest_all (s ∷ xs) t le = oldest_new s xs t (omega (arith, le))

pub clock_length : (c : InitialState) (ws : List WriterStep) → (state_after c ws).clock ≡ length ws
clock_length c [] = refl
clock_length c (s ∷ ws) = tick c (state_after c ws) s ∙ ap suc (clock_length c ws)

pub at_old : (c : InitialState) (s : WriterStep) (ws : List WriterStep) (t : ℕ) → t ≤ length ws → state_at c (s ∷ ws) t ≡ state_at c ws t
at_old c s ws t le = ap (state_after c) (oldest_old s ws t le)

pub at_new : (c : InitialState) (s : WriterStep) (ws : List WriterStep) (t : ℕ) → length ws < t → state_at c (s ∷ ws) t ≡ state_after c (s ∷ ws)
at_new c s ws t lt = ap (state_after c) (oldest_new s ws t lt)

pub at_now : (c : InitialState) (ws : List WriterStep) → state_at c ws (length ws) ≡ state_after c ws
at_now c ws = ap (state_after c) (oldest_all ws (length ws) (omega arith))

-- what the workers do changes no table
pub state_is : (c : InitialState) (steps : List TraceStep) → (after c steps).state ≡ state_after c (writes steps)
state_is c [] = refl
state_is c (Writer s ∷ steps) = ap (λ w. state_by_step c w s) (state_is c steps)
state_is c (ByWorker k s ∷ steps) = state_is c steps

abbrev pub told_by : InitialState → List WriterStep → Told
told_by c ws t a lo x = (answer c (state_at c ws t).words a ≡ x) × (lo ≤ updates_done_in (state_at c ws t))

abbrev pub hi_by : InitialState → List WriterStep → ℕ → ℕ → Type 0
hi_by c ws t hi = updates_begun_in (state_at c ws t) ≤ hi

-- one step of the writer keeps what holds
keeps : (c : InitialState) (A : Told) (Hi : ℕ → ℕ → Type 0) (w : TableState) (workers : ℕ → Worker) → Good c A Hi w workers
    → (s : WriterStep) → MayWrite c (λ k. (workers k).counter) w s
    → ((a lo : ℕ) → a < addresses c → lo ≤ updates_done_in (state_by_step c w s) → A (suc w.clock) a lo (answer c (state_by_step c w s).words a)) → ((t : ℕ) → t ≤ suc w.clock → Hi t (updates_begun_in (state_by_step c w s)))
    → Good c A Hi (state_by_step c w s) workers
keeps c A Hi w workers good (StoreFirst i x) may now below = keeps_first c A Hi w workers good i x may.1 may.3 now below
keeps c A Hi w workers good (StoreSecond j x) may now below = keeps_second c A Hi w workers good j x may.3 now below
keeps c A Hi w workers good (BeginUpdate change) may now below = keeps_quiet c A Hi w workers good (suc w.sequence) (with_at w.history (suc (updates_begun_in w)) (rules_by (w.history (updates_begun_in w)) change)) w.answer_changed w.token (omega arith) (omega arith) now below
keeps c A Hi w workers good EndUpdate may now below = keeps_quiet c A Hi w workers good (suc w.sequence) w.history (λ a. false) w.token (omega arith) (omega arith) now below
keeps c A Hi w workers good BumpToken may now below = keeps_quiet c A Hi w workers good w.sequence w.history w.answer_changed (suc w.token) (omega arith) (omega arith) now below
keeps c A Hi w workers good (LoadCounter token worker counter) may now below = keeps_counter c A Hi w workers good token worker counter may now below

-- what was told stays told
good_more : (c : InitialState) (A B : Told) (HA HB : ℕ → ℕ → Type 0) (w : TableState) (workers : ℕ → Worker)
    → ((t a lo : ℕ) (x : Option ℕ) → t ≤ w.clock → A t a lo x → B t a lo x) → ((t hi : ℕ) → t ≤ w.clock → HA t hi → HB t hi)
    → Good c A HA w workers → Good c B HB w workers
good_more c A B HA HB w workers more up good = record {
  token = good.token;
  passed = good.passed;
  scan = good.scan;
  unlinked = good.unlinked;
  linked = good.linked;
  workers_ok = λ k. let ok = good.workers_ok k in record {
    inside = ok.inside;
    counter = ok.counter;
    loaded = ok.loaded;
    since = ok.since;
    grace = ok.grace;
    idle = ok.idle;
    low = ok.low;
    probes = each_map (ProbeOk c A w (workers k).since (workers k).lo (workers k).phase) (ProbeOk c B w (workers k).since (workers k).lo (workers k).phase)
        (probe_more (workers k).since (workers k).lo (workers k).phase) (workers k).probes ok.probes;
    finished = each_map (FinishedOk c A HA w.clock) (FinishedOk c B HB w.clock)
        (λ s h. (h.0, h.1, (h.2.0, h.2.1, h.2.2, more h.2.0 s.addr s.lo s.hop (omega (arith, h.1, h.2.2)) h.2.3, up h.2.0 s.hi (omega (arith, h.1, h.2.2)) h.2.4))) (workers k).finished ok.finished;
  };
  now = λ a lo lt le. more w.clock a lo (answer c w.words a) (omega arith) (good.now a lo lt le);
  below = λ t le. up t (updates_begun_in w) le (good.below t le);
}
  where
    probe_more : (since lo : ℕ) (phase : _) (p : Probe) → ProbeOk c A w since lo phase p → ProbeOk c B w since lo phase p
    probe_more since lo phase (Unread a) h = h
    probe_more since lo phase (InGroup a g f) h =
        half_by c A B w w since lo phase a g f (omega arith) (omega arith) h
        (elim h.value [ inl x ↦ inl x | inr x ↦ inr (x.0, (x.1.0, x.1.1, x.1.2, more x.1.0 a lo _ x.1.2 x.1.3)) ])
    probe_more since lo phase (Answered a y f l) h = (h.0, h.1, (h.2.0, h.2.1, h.2.2, more h.2.0 a lo y (omega (arith, h.1, h.2.2)) h.2.3))

pub begun_grows : (c : InitialState) (ws : List WriterStep) (t : ℕ) → updates_begun_in (state_at c ws t) ≤ updates_begun_in (state_after c ws)
begun_grows c [] t = omega arith
begun_grows c (s ∷ ws) t = oldest_case (λ l. updates_begun_in (state_after c l) ≤ updates_begun_in (state_after c (s ∷ ws))) s ws t
    (λ _. omega arith)
    (λ _. omega (arith, begun_grows c ws t, sequence_grows c (state_after c ws) s))

unstarted_ok : (c : InitialState) (k : ℕ) → WorkerOk c (told_by c []) (hi_by c []) (initial_table_state c) k initial_worker
unstarted_ok c k = record { inside = λ run. absurd run; counter = omega arith; loaded = tt; since = omega arith; grace = λ run. absurd run; idle = refl; low = tt; probes = tt; finished = tt }

start_good : (c : InitialState) → IsSettled c → Good c (told_by c []) (hi_by c []) (initial_table_state c) (after c []).workers
start_good c settled = record {
  token = settled.token;
  passed = omega arith;
  scan = omega arith;
  unlinked = λ g. omega arith;
  linked = settled.links;
  workers_ok = unstarted_ok c;
  now = λ a lo lt le. (refl, le);
  below = λ t le. omega arith;
}

-- a step of the writer
good_write : (c : InitialState) (ws : List WriterStep) (workers : ℕ → Worker) → Good c (told_by c ws) (hi_by c ws) (state_after c ws) workers
    → (s : WriterStep) → MayWrite c (λ k. (workers k).counter) (state_after c ws) s → Good c (told_by c (s ∷ ws)) (hi_by c (s ∷ ws)) (state_after c (s ∷ ws)) workers
good_write c ws workers good s may =
    let w = state_after c ws in
    let len : w.clock ≡ length ws = clock_length c ws in
    let new : state_at c (s ∷ ws) (suc w.clock) ≡ state_after c (s ∷ ws) = at_new c s ws (suc w.clock) (omega (arith, len)) in
    let worker_by_step : Good c (told_by c (s ∷ ws)) (hi_by c (s ∷ ws)) w workers = good_more c (told_by c ws) (told_by c (s ∷ ws)) (hi_by c ws) (hi_by c (s ∷ ws)) w workers
    (λ t a lo x le h. subst (λ v. (answer c v.words a ≡ x) × (lo ≤ updates_done_in v)) (sym (at_old c s ws t (omega (arith, le, len)))) h)
    (λ t hi le h. subst (λ v. updates_begun_in v ≤ hi) (sym (at_old c s ws t (omega (arith, le, len)))) h) good in
    keeps c (told_by c (s ∷ ws)) (hi_by c (s ∷ ws)) w workers worker_by_step s may
    (λ a lo lt le. subst (λ v. (answer c v.words a ≡ answer c (state_by_step c w s).words a) × (lo ≤ updates_done_in v)) (sym new) (refl, le))
    (λ t le. begun_grows c (s ∷ ws) t)

pub good_trace : (c : InitialState) → IsSettled c → (steps : List TraceStep) → IsTrace c steps
    → Good c (told_by c (writes steps)) (hi_by c (writes steps)) (state_after c (writes steps)) (after c steps).workers
good_trace c settled [] trace = start_good c settled
good_trace c settled (Writer s ∷ steps) trace =
    good_write c (writes steps) (after c steps).workers (good_trace c settled steps trace.1) s
    (subst (λ w. MayWrite c (λ k. ((after c steps).workers k).counter) w s) (state_is c steps) trace.0.0)
good_trace c settled (ByWorker k s ∷ steps) trace =
    let good = good_trace c settled steps trace.1 in
    let w = state_after c (writes steps) in
    let A : Told = told_by c (writes steps) in
    let Hi : ℕ → ℕ → Type 0 = hi_by c (writes steps) in
    let r = (after c steps).workers k in
    let ok : WorkerOk c A Hi w k (worker_by_step w.clock r s) = worker_moves c A Hi w (after c steps).workers good k trace.0.0 r (good.workers_ok k) s (subst (λ v. MayRead c v ((after c steps).workers k) s) (state_is c steps) trace.0.1) in
    record {
      token = good.token;
      passed = good.passed;
      scan = good.scan;
      unlinked = good.unlinked;
      linked = good.linked;
      workers_ok = λ j. subst (λ v. WorkerOk c A Hi w j (with_at (after c steps).workers k (worker_by_step v.clock r s) j)) (sym (state_is c steps))
          (with_at_case (WorkerOk c A Hi w j) (after c steps).workers k (worker_by_step w.clock r s) j
          (λ e. subst (λ x. WorkerOk c A Hi w x (worker_by_step w.clock r s)) (sym e) ok)
          (λ ne. good.workers_ok j));
      now = good.now;
      below = good.below;
    }

-- what the words show, after the writer's steps and after the first t of them
pub shows_state : (c : InitialState) → IsSettled c → (steps : List TraceStep) → IsTrace c steps → Shows c (state_after c (writes steps))
shows_state c settled [] trace = initial_shows c settled
shows_state c settled (Writer s ∷ steps) trace =
    keeps_shows c (λ k. ((after c steps).workers k).counter) (state_after c (writes steps)) (shows_state c settled steps trace.1) s
    (subst (λ w. MayWrite c (λ k. ((after c steps).workers k).counter) w s) (state_is c steps) trace.0.0)
shows_state c settled (ByWorker k s ∷ steps) trace = shows_state c settled steps trace.1

pub shows_at : (c : InitialState) → IsSettled c → (steps : List TraceStep) → IsTrace c steps → (t : ℕ) → Shows c (state_at c (writes steps) t)
shows_at c settled [] trace t = initial_shows c settled
shows_at c settled (Writer s ∷ steps) trace t = oldest_case (λ l. Shows c (state_after c l)) s (writes steps) t
    (λ _. shows_state c settled (Writer s ∷ steps) trace)
    (λ _. shows_at c settled steps trace.1 t)
shows_at c settled (ByWorker k s ∷ steps) trace t = shows_at c settled steps trace.1 t

pub history_at : (c : InitialState) (ws : List WriterStep) (t k : ℕ) → k ≤ updates_begun_in (state_at c ws t) → (state_after c ws).history k ≡ (state_at c ws t).history k
history_at c [] t k le = refl
history_at c (s ∷ ws) t k le = oldest_case (λ l. k ≤ updates_begun_in (state_after c l) → (state_after c (s ∷ ws)).history k ≡ (state_after c l).history k) s ws t
    (λ _ _. refl)
    (λ _ old. history_stays c (state_after c ws) s k (omega (arith, old, begun_grows c ws t)) ∙ history_at c ws t k old)
    le

-- the version that an address shows never falls
pub rising : (c : InitialState) (ws : List WriterStep) (t u a : ℕ) → t ≤ u
    → version (state_at c ws t) a ≤ version (state_at c ws u) a
rising c [] t u a le = omega arith
rising c (s ∷ ws) t u a le = oldest_case (λ l. version (state_at c (s ∷ ws) t) a ≤ version (state_after c l) a) s ws u
    (λ _. oldest_case (λ l. version (state_after c l) a ≤ version (state_after c (s ∷ ws)) a) s ws t
    (λ _. omega arith)
    (λ h.
    let up : version (state_at c ws t) a ≤ version (state_after c ws) a = subst (λ w. version (state_at c ws t) a ≤ version w a) (at_now c ws) (rising c ws t (length ws) a h) in
    omega (arith, up, rises c (state_after c ws) s a)))
    (λ h. subst (λ w. version w a ≤ version (state_at c ws u) a) (sym (at_old c s ws t (omega (arith, le, h)))) (rising c ws t u a le))

right : (c : InitialState) → IsSettled c → (steps : List TraceStep) → IsTrace c steps → (s : FinishedLookup) → FinishedOk c (told_by c (writes steps)) (hi_by c (writes steps)) (state_after c (writes steps)).clock s → IsLegalAtPlace c (writes steps) s
right c settled steps trace s h =
    let t = h.2.0 in
    let ws = writes steps in
    let w = state_at c ws t in
    let shown : IsAnswer c (w.history (version w s.addr)) s.addr (answer c w.words s.addr) = (shows_at c settled steps trace t).shown s.addr h.0 in
    let kept : (state_after c ws).history (version w s.addr) ≡ w.history (version w s.addr) = history_at c ws t (version w s.addr) (version_le w s.addr) in
    record {
      place = t;
      from = h.2.1;
      to = h.2.2;
      within = omega (arith, h.1, clock_length c ws);
      answers = subst (λ R. IsAnswer c R s.addr s.hop) (sym kept) (subst (IsAnswer c (w.history (version w s.addr)) s.addr) h.2.3.0 shown);
      low = omega (arith, h.2.3.1, version_ge w s.addr);
      high = omega (arith, h.2.4, version_le w s.addr);
    }

pub all_right : (c : InitialState) → IsSettled c → (steps : List TraceStep) → IsTrace c steps → (k : ℕ) → Each (IsLegalAtPlace c (writes steps)) ((after c steps).workers k).finished
all_right c settled steps trace k =
    each_map (FinishedOk c (told_by c (writes steps)) (hi_by c (writes steps)) (state_after c (writes steps)).clock) (IsLegalAtPlace c (writes steps)) (right c settled steps trace)
    ((after c steps).workers k).finished ((good_trace c settled steps trace).workers_ok k).finished

-- a store into a group: each reader interval that runs began after the group was unlinked
pub after_grace : (c : InitialState) → IsSettled c → (steps : List TraceStep) → IsTrace c steps → (j x : ℕ) → MayCome c (after c steps) (Writer (StoreSecond j x))
    → (k : ℕ) → IsRunning ((after c steps).workers k).phase → (state_after c (writes steps)).unlinked (j / 2 ^ c.second) ≤ ((after c steps).workers k).since
after_grace c settled steps trace j x may k run =
    let w = state_after c (writes steps) in
    let r = (after c steps).workers k in
    let g = j / 2 ^ c.second in
    let ok = (good_trace c settled steps trace).workers_ok k in
    let may' : MayWrite c (λ k. ((after c steps).workers k).counter) w (StoreSecond j x) = subst (λ v. MayWrite c (λ k. ((after c steps).workers k).counter) v (StoreSecond j x)) (state_is c steps) may.0 in
    elim (cases_lt r.since (w.unlinked g)) [
      | inl lt ↦ absurd (held_not_filled c w k r.counter r.phase (ok.inside run) (w.groups g) (ok.grace run g lt) may'.3)
      | inr le ↦ le
    ]

-- The law as one worker knows it: by its own steps with their places, and the writer's steps.

worker_is : (c : InitialState) (steps : List TraceStep) (k : ℕ) → (after c steps).workers k ≡ worker_by (own_steps k steps)
worker_is c [] k = refl
worker_is c (Writer s ∷ steps) k = worker_is c steps k
worker_is c (ByWorker j s ∷ steps) k =
    let r = (after c steps).workers in
    let clock : (after c steps).state.clock ≡ length (writes steps) = ap (λ t. t.clock) (state_is c steps) ∙ clock_length c (writes steps) in
    by_number (λ b. cond b (worker_by_step (after c steps).state.clock (r j) s) (r k) ≡ worker_by (cond b ((s, length (writes steps)) ∷ own_steps k steps) (own_steps k steps))) k j
    (λ h. ap (λ n. worker_by_step n (r j) s) clock ∙ ap (λ v. worker_by_step (length (writes steps)) v s) (ap r (sym h.1) ∙ worker_is c steps k))
    (λ h. worker_is c steps k)

pub own_lookups_are_legal : OwnLookupsAreLegal
own_lookups_are_legal c steps k settled trace =
    let same = worker_is c steps k in
    (same, subst (λ r. All (IsLegalAtPlace c (writes steps)) r.finished) same (each_all (IsLegalAtPlace c (writes steps)) ((after c steps).workers k).finished (all_right c settled steps trace k)))

pub versions_never_fall_at_places : VersionsNeverFallAtPlaces
versions_never_fall_at_places c w_steps a t u le = (version_ge (state_at c w_steps t) a, version_le (state_at c w_steps t) a, rising c w_steps t u a le)

pub places_never_fall : PlacesNeverFall
places_never_fall k [] = (λ i j d lt within. absurd (omega (arith, within)), All-nil (λ s. s.1 ≤ 0))
places_never_fall k (Writer s ∷ steps) =
    let was = places_never_fall k steps in
    (was.0, All-weaker (λ t. t.1 ≤ length (writes steps)) (λ t. t.1 ≤ suc (length (writes steps))) (λ t le. omega (arith, le)) (own_steps k steps) was.1)
places_never_fall k (ByWorker j s ∷ steps) =
    let was = places_never_fall k steps in
    let now : WorkerStep × ℕ = (s, length (writes steps)) in
    by_number (λ b. AllPairs (λ later earlier. earlier.1 ≤ later.1) (cond b (now ∷ own_steps k steps) (own_steps k steps)) × All (λ t. t.1 ≤ length (writes steps)) (cond b (now ∷ own_steps k steps) (own_steps k steps))) k j
    (λ h. (AllPairs-cons (λ later earlier. earlier.1 ≤ later.1) now (own_steps k steps) was.1 was.0, All-cons (λ t. t.1 ≤ length (writes steps)) now (own_steps k steps) (omega arith) was.1))
    (λ h. was)

-- one more step of the writer leaves what it had done at the places before
placed_more : (c : InitialState) (s : WriterStep) (w_steps : List WriterStep) (steps : List (WorkerStep × ℕ)) → All (λ t. t.1 ≤ length w_steps) steps
    → ArePlaced c w_steps steps → ArePlaced c (s ∷ w_steps) steps
placed_more c s w_steps [] within placed = tt
placed_more c s w_steps (t ∷ steps) within placed =
    let le : t.1 ≤ length w_steps = All-head (λ (x : WorkerStep × ℕ). x.1 ≤ length w_steps) t steps within in (
      subst (λ (l : List WriterStep). MayRead c (state_after c l) (worker_by steps) t.0) (sym (oldest_old s w_steps t.1 le)) placed.0,
      placed_more c s w_steps steps (All-tail (λ (x : WorkerStep × ℕ). x.1 ≤ length w_steps) t steps within) placed.1,
    )

-- a worker's newest step stands at the end of the writer's steps
placed_now : (c : InitialState) (steps : List TraceStep) (k : ℕ) (s : WorkerStep) → MayRead c (after c steps).state ((after c steps).workers k) s
    → MayRead c (state_at c (writes steps) (length (writes steps))) (worker_by (own_steps k steps)) s
placed_now c steps k s may =
    let w_steps = writes steps in
    let all : oldest (length w_steps) w_steps ≡ w_steps = oldest_all w_steps (length w_steps) (omega arith) in
    subst (λ (l : List WriterStep). MayRead c (state_after c l) (worker_by (own_steps k steps)) s) (sym all)
    (subst (λ (z : TableState × Worker). MayRead c z.0 z.1 s) (λ i. (state_is c steps i, worker_is c steps k i)) may)

pub own_steps_are_placed : OwnStepsArePlaced
own_steps_are_placed c [] k trace = tt
own_steps_are_placed c (Writer s ∷ steps) k trace =
    placed_more c s (writes steps) (own_steps k steps) (places_never_fall k steps).1 (own_steps_are_placed c steps k trace.1)
own_steps_are_placed c (ByWorker j s ∷ steps) k trace =
    let was = own_steps_are_placed c steps k trace.1 in
    let now : WorkerStep × ℕ = (s, length (writes steps)) in
    by_number (λ b. ArePlaced c (writes steps) (cond b (now ∷ own_steps k steps) (own_steps k steps))) k j
    (λ h. (
      subst (λ n. MayRead c (state_at c (writes steps) (length (writes steps))) (worker_by (own_steps n steps)) s) (sym h.1) (placed_now c steps j s trace.0.1),
      was,
    ))
    (λ h. was)

pub trace_grows : TraceGrows
trace_grows c step steps = (λ trace. trace, λ more. more)
