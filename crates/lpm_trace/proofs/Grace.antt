-- The textbook's grace period: no reader interval holds both a step that unlinks a group and a later
-- store into it.
use Rattle.std.proofs.Common.{◌≡◌, ℕ, suc, ◌/◌, ◌^◌, ◌≤◌, inl, inr, true, false, cond, eqb, eq-eqb, IsTrue, List, [], ◌∷◌, ◌++◌, length, refl, sym, ap, subst, ◌∙◌, append_assoc, length-append, arith}
use Rattle.qsbr.specs.Intervals.{IsReaderInterval, IsRunningSince, IsHeldByWorker}
use Rattle.qsbr.proofs.RunningIntervals.{since_within, since_cases, held_start, grace_period_is_over}
use Rattle.lpm_trace.specs.declared.step.WriterStep.{WriterStep}
use Rattle.lpm_trace.specs.declared.step.WriterStep.TheVariants.{StoreFirst, StoreSecond}
use Rattle.lpm_trace.specs.declared.step.WorkerStep.{WorkerStep}
use Rattle.lpm_trace.specs.declared.step.WorkerStep.TheVariants.{LoadOnline, StoreOnline, LoadQuiescent, StoreOffline, LoadFirst, LoadSecond, MeetWriter}
use Rattle.lpm_trace.specs.declared.step.TraceStep.{TraceStep}
use Rattle.lpm_trace.specs.declared.step.TraceStep.TheVariants.{Writer, Worker as ByWorker}
use Rattle.lpm_trace.specs.States.{InitialState, TableState, IsSettled, first_entry, with_stamp, oldest, state_after}
use Rattle.lpm_trace.specs.Trace.{Worker, worker_by_step, MayRead, after, IsTrace, writes}
use Rattle.lpm_trace.proofs.Good.{IsRunning}
use Rattle.lpm_trace.specs.Laws.{begins, ends, by_steps, Unlinks, ReuseIsLawful}
use Rattle.lpm_trace.proofs.Versions.{with_at-same, by_number}
use Rattle.lpm_trace.proofs.WriterStores.{stamped_le, stamped_ge}
use Rattle.lpm_trace.proofs.Traces.{oldest_old, oldest_all, clock_length, state_is, after_grace}
use Rattle.lpm_trace.proofs.Moments.{count, count_old, count_le}

-- ---- a reader interval that runs

-- the step with which an interval begins
begun_runs : (s : WorkerStep) (k worker now : ℕ) (r : Worker) → IsTrue (begins worker (ByWorker k s)) → IsRunning (worker_by_step now r s).phase × ((worker_by_step now r s).since ≡ now)
begun_runs (StoreOnline token) k worker now r does = (tt, refl)
begun_runs (LoadQuiescent token) k worker now r does = (tt, refl)
begun_runs s k worker now r does = cc does

-- a step that ends none
kept_runs : (c : InitialState) (w : TableState) (r : Worker) (s : WorkerStep) (k worker now : ℕ) → worker ≡ k → MayRead c w r s → ¬ IsTrue (ends worker (ByWorker k s)) → IsRunning r.phase
    → IsRunning (worker_by_step now r s).phase × ((worker_by_step now r s).since ≡ r.since)
kept_runs c w r (LoadOnline token) k worker now same may lasts run = absurd (subst IsRunning may.0 run)
kept_runs c w r (StoreOnline token) k worker now same may lasts run = absurd (subst IsRunning may run)
kept_runs c w r (LoadQuiescent token) k worker now same may lasts run = absurd (lasts (eq-eqb worker k same))
kept_runs c w r StoreOffline k worker now same may lasts run = absurd (lasts (eq-eqb worker k same))
kept_runs c w r (LoadFirst word) k worker now same may lasts run = (run, refl)
kept_runs c w r (LoadSecond word) k worker now same may lasts run = (run, refl)
kept_runs c w r (MeetWriter sequence) k worker now same may lasts run = (run, refl)
kept_runs c w r s k worker now same may lasts run = (tt, refl)

-- a step of another worker begins no interval of this one
not_begun : (s : WorkerStep) (k worker : ℕ) → eqb worker k ≡ false → IsTrue (begins worker (ByWorker k s)) → ⊥
not_begun (StoreOnline token) k worker other does = cc (other, does)
not_begun (LoadQuiescent token) k worker other does = cc (other, does)
not_begun s k worker other does = cc does

-- the worker's state knows the interval that runs, and how many steps the writer had made before it
abbrev KnowsInterval : InitialState → List TraceStep → ℕ → Worker → ℕ → Type 0
KnowsInterval c steps k r start = IsRunning r.phase × (r.since ≡ count steps start)

interval_stays : (c : InitialState) (s : TraceStep) (steps : List TraceStep) (k start : ℕ) (r : Worker) → IsRunningSince by_steps steps k start → KnowsInterval c steps k r start → KnowsInterval c (s ∷ steps) k r start
interval_stays c s steps k start r runs was =
    let within = since_within by_steps steps k start runs in
    (was.0, was.1 ∙ sym (count_old s steps start (omega (arith, within))))

running_since : (c : InitialState) (steps : List TraceStep) → IsTrace c steps → (k start : ℕ) → IsRunningSince by_steps steps k start → KnowsInterval c steps k ((after c steps).workers k) start
running_since c [] trace k start runs = let within = since_within by_steps [] k start runs in absurd (omega (arith, within))
running_since c (Writer s ∷ steps) trace k start runs = elim (since_cases by_steps (Writer s) steps k start runs) [
  | inl new ↦ absurd (let does : false ≡ true = new.1 in cc does)
  | inr old ↦ interval_stays c (Writer s) steps k start ((after c steps).workers k) old.0 (running_since c steps trace.1 k start old.0)
]
running_since c (ByWorker j s ∷ steps) trace k start runs =
    let w = (after c steps).workers in
    let now = (after c steps).state.clock in
    let clock : now ≡ length (writes steps) = ap (λ t. t.clock) (state_is c steps) ∙ clock_length c (writes steps) in
    let whole : count (ByWorker j s ∷ steps) (length steps) ≡ length (writes steps) = count_old (ByWorker j s) steps (length steps) (omega arith) ∙ ap (λ l. length (writes l)) (oldest_all steps (length steps) (omega arith)) in
    by_number (λ b. KnowsInterval c (ByWorker j s ∷ steps) k (cond b (worker_by_step now (w j) s) (w k)) start) k j
    (λ h. elim (since_cases by_steps (ByWorker j s) steps k start runs) [
      | inl new ↦
          let begun = begun_runs s j k now (w j) new.1 in
          let at = ap (count (ByWorker j s ∷ steps)) new.0 in
          (begun.0, begun.1 ∙ clock ∙ sym whole ∙ sym at)
      | inr old ↦
          let was = interval_stays c (ByWorker j s) steps k start (w k) old.0 (running_since c steps trace.1 k start old.0) in
          let mine : KnowsInterval c (ByWorker j s ∷ steps) k (w j) start = subst (λ i. KnowsInterval c (ByWorker j s ∷ steps) k (w i) start) h.1 was in
          let kept = kept_runs c (after c steps).state (w j) s j k now h.1 trace.0.1 old.1 mine.0 in
          (kept.0, kept.1 ∙ mine.1)
    ])
    (λ h. elim (since_cases by_steps (ByWorker j s) steps k start runs) [
      | inl new ↦ absurd (not_begun s j k h.0 new.1)
      | inr old ↦ interval_stays c (ByWorker j s) steps k start (w k) old.0 (running_since c steps trace.1 k start old.0)
    ])

-- ---- a group that was unlinked

unlinked_le : (c : InitialState) (ws : List WriterStep) (g : ℕ) → (state_after c ws).unlinked g ≤ (state_after c ws).clock
unlinked_le c [] g = omega arith
unlinked_le c (StoreFirst i x ∷ ws) g = stamped_le (first_entry (state_after c ws).words i) (suc (state_after c ws).clock) (state_after c ws).unlinked (λ h. let le = unlinked_le c ws h in omega (arith, le)) g
unlinked_le c (s ∷ ws) g = let le = unlinked_le c ws g in omega (arith, le)

unlinked_grows : (c : InitialState) (ws : List WriterStep) (s : WriterStep) (g : ℕ) → (state_after c ws).unlinked g ≤ (state_after c (s ∷ ws)).unlinked g
unlinked_grows c ws (StoreFirst i x) g = let le = unlinked_le c ws g in stamped_ge (first_entry (state_after c ws).words i) (suc (state_after c ws).clock) (state_after c ws).unlinked g (omega (arith, le))
unlinked_grows c ws s g = omega arith

unlinked_now : (c : InitialState) (older : List TraceStep) (s : WriterStep) (g : ℕ) → Unlinks c older s g → (state_after c (s ∷ writes older)).unlinked g ≡ suc (length (writes older))
unlinked_now c older (StoreFirst i x) g unlinks =
    let w = state_after c (writes older) in
    subst (λ e. with_stamp e (suc w.clock) w.unlinked g ≡ suc (length (writes older))) (sym unlinks.0) (with_at-same w.unlinked g (suc w.clock) ∙ ap suc (clock_length c (writes older)))
unlinked_now c older s g unlinks = absurd unlinks

unlinked_since : (c : InitialState) (between older : List TraceStep) (s : WriterStep) (g : ℕ) → Unlinks c older s g
    → suc (length (writes older)) ≤ (state_after c (writes (between ++ Writer s ∷ older))).unlinked g
unlinked_since c [] older s g unlinks = let now = unlinked_now c older s g unlinks in omega (arith, now)
unlinked_since c (Writer t ∷ between) older s g unlinks =
    let was = unlinked_since c between older s g unlinks in
    let more = unlinked_grows c (writes (between ++ Writer s ∷ older)) t g in
    omega (arith, was, more)
unlinked_since c (ByWorker k t ∷ between) older s g unlinks = unlinked_since c between older s g unlinks

-- ---- no reader interval holds both

oldest_older : {A : Type 0} (newer older : List A) (n : ℕ) → n ≤ length older → oldest n (newer ++ older) ≡ oldest n older
oldest_older [] older n le = refl
oldest_older (x ∷ newer) older n le =
    let len = length-append newer older in
    oldest_old x (newer ++ older) n (omega (arith, le, len)) ∙ oldest_older newer older n le

-- the newest steps of a trace taken away
pub older_trace : (c : InitialState) (newer older : List TraceStep) → IsTrace c (newer ++ older) → IsTrace c older
older_trace c [] older trace = trace
older_trace c (s ∷ newer) older trace = older_trace c newer older trace.1

-- at the store into the group, no worker holds the unlinking
not_held : (c : InitialState) → IsSettled c → (between older : List TraceStep) (unlinks : WriterStep) (j x g : ℕ) → IsTrace c (Writer (StoreSecond j x) ∷ (between ++ Writer unlinks ∷ older))
    → Unlinks c older unlinks g → j / 2 ^ c.second ≡ g → (k : ℕ) → ¬ IsHeldByWorker by_steps (between ++ Writer unlinks ∷ older) (length older) k
not_held c settled between older unlinks j x g trace is same k held =
    let base : List TraceStep = between ++ Writer unlinks ∷ older in
    let start = held_start by_steps base (length older) k held in
    let knows = running_since c base trace.1 k start.0 start.1 in
    let since = after_grace c settled base trace.1 j x trace.0 k knows.0 in
    let late : suc (length (writes older)) ≤ (state_after c (writes base)).unlinked (j / 2 ^ c.second) = subst (λ h. suc (length (writes older)) ≤ (state_after c (writes base)).unlinked h) (sym same) (unlinked_since c between older unlinks g is) in
    let one : between ++ Writer unlinks ∷ older ≡ (between ++ Writer unlinks ∷ []) ++ older = sym (append_assoc between (Writer unlinks ∷ []) older) in
    let early : count base start.0 ≡ count older start.0 = ap (λ l. count l start.0) one ∙ ap (λ l. length (writes l)) (oldest_older (between ++ Writer unlinks ∷ []) older start.0 (omega (arith, start.2))) in
    omega (arith, since, late, knows.1, early, count_le older start.0)

pub reuse_is_lawful : ReuseIsLawful
reuse_is_lawful c newer between older unlinks (StoreSecond j x) g settled trace is same i interval =
    let base : List TraceStep = between ++ Writer unlinks ∷ older in
    let fills : TraceStep = Writer (StoreSecond j x) in
    let len = length-append between (Writer unlinks ∷ older) in
    let whole : newer ++ fills ∷ base ≡ (newer ++ fills ∷ []) ++ base = sym (append_assoc newer (fills ∷ []) base) in
    grace_period_is_over TraceStep by_steps (newer ++ fills ∷ []) base (length older) (length base) i
    (omega (arith, len))
    (not_held c settled between older unlinks j x g (older_trace c newer (fills ∷ base) trace) is same)
    (omega arith)
    (subst (λ l. IsReaderInterval by_steps l i) whole interval)
reuse_is_lawful c newer between older unlinks s g settled trace is fills i interval = absurd fills
