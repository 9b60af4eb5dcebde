-- What a check leaves.
use Rattle.std.proofs.Common.{arith, ◌≡◌, ℕ, suc, ◌+◌, ◌<◌, ◌≤◌, inl, inr, true, false, cond, eqb, eq-eqb, refl, sym, ap, subst, ◌∙◌, List, ◌∷◌, leb, ◌⊎◌, add-one, zero, max}
use Rattle.std.proofs.lemmas.Bool.{cases_eq}
use Rattle.std.proofs.lemmas.Bool.Decides.{eqb_tells, leb_tells}
use Rattle.lpm_trace.specs.declared.step.WriterStep.{WriterStep}
use Rattle.lpm_trace.specs.declared.step.WriterStep.TheVariants.{LoadCounter}
use Rattle.lpm_trace.specs.States.{InitialState, TableState, state_after, lets_pass}
use Rattle.lpm_trace.specs.Progress.{WriterProgress, Check, IsLoadDue, progress_after_pass, progress_after_stop, progress_after_load, Nothing}
use Rattle.lpm_trace.specs.Writer.{progress_after, MayStep}
use Rattle.lpm_writer.specs.TokenCheck.{Loads, LoadsUntilStopped}
use Rattle.lpm_writer.specs.MemorySteps.{WithSteps, Goes, Checks}
use Rattle.lpm_writer.specs.Commands.{ChecksBy}
use Rattle.lpm_writer.specs.GroupsMatch.{MayLoadCounters, SameState, HasNothingDue}
use Rattle.std.specs.Prelude.{◌&&◌, Result, Ok, Err, Some}
use Rattle.lpm_limits.specs.declared.busy.Busy.{Busy}

-- Loads of the workers' counters, one after another.

-- the check goes on at the next worker
pub go_on : (c : InitialState) (x : WriterProgress) (t k v : ℕ) → lets_pass t v ≡ true → suc k < c.workers → progress_after_load c x t k v ≡ record x { next_step = Check t }
go_on c x t k v pass more = elim (eqb_tells (suc k) c.workers) [
  | inl h ↦ absurd (omega (arith, more, h.1))
  | inr h ↦
      ap (λ b. cond b (cond (eqb (suc k) c.workers) (progress_after_pass x) (record x { next_step = Check t })) (progress_after_stop x x.awaited)) pass
      ∙ ap (λ b. cond b (progress_after_pass x) (record x { next_step = Check t })) h.0
]

pub next_load_may_come : (c : InitialState) (steps : List WriterStep) (t k v : ℕ) → MayStep c steps (LoadCounter t k v) → lets_pass t v ≡ true → suc k < c.workers
    → (v' : ℕ) → MayStep c (LoadCounter t k v ∷ steps) (LoadCounter t (suc k) v')
next_load_may_come c steps t k v may pass more v' =
    let w' : TableState = state_after c (LoadCounter t k v ∷ steps) in
    let x' : WriterProgress = progress_after c (LoadCounter t k v ∷ steps) in
    let next_step : x'.next_step ≡ Check t = ap (λ (x : WriterProgress). x.next_step) (go_on c (progress_after c steps) t k v pass more) in
    let next : cond (lets_pass t v) (suc k) 0 ≡ suc k = ap (λ b. cond b (suc k) 0) pass in (
      (refl, more, may.0.2, inr (next, refl)),
      subst (λ d. IsLoadDue w' x' t (suc k) d) (sym next_step) (refl, sym (ap (λ b. cond b (cond (lets_pass t v) (suc k) 0) 0) (eq-eqb t t refl) ∙ next)),
    )

pub passes_by : (t v : ℕ) → (v ≡ 0) ⊎ (t ≤ v) → lets_pass t v ≡ true
passes_by t v h = elim (eqb_tells v 0) [
  | inl e ↦ ap (λ b. cond b true (leb t v)) e.0
  | inr n ↦ ap (λ b. cond b true (leb t v)) n.0 ∙ elim (leb_tells t v) [
    | inl e ↦ e.0
    | inr lt ↦ absurd (none n.1 lt.1 h)
  ]
]
  where
    none : (v ≡ 0 → ⊥) → v < t → (v ≡ 0) ⊎ (t ≤ v) → ⊥
    none some lt (inl z) = some z
    none some lt (inr le) = omega (arith, lt, le)

pub stops_by : (t v : ℕ) → 0 < v → v < t → lets_pass t v ≡ false
stops_by t v some lt = elim (eqb_tells v 0) [
  | inl e ↦ absurd (omega (arith, some, e.1))
  | inr n ↦ ap (λ b. cond b true (leb t v)) n.0 ∙ elim (leb_tells t v) [
    | inl e ↦ absurd (omega (arith, lt, e.1))
    | inr h ↦ h.0
  ]
]

-- ---- how far a check has come

-- the counters of the workers below k were loaded, and the next one may be
abbrev pub HasLoadedCounters : {M : Type 0} → (M → InitialState → List WriterStep → Type 0) → (M → WriterStep → M → Type 0) → M → ℕ → ℕ → M → Type 0
HasLoadedCounters did does m token k z = (c : InitialState) (steps : List WriterStep) → did m c steps → MayLoadCounters c steps token
    → (later : List WriterStep) × did z c later × Loads (Goes does) k (m, steps) token (z, later)
    × (k < c.workers → (counter : ℕ) → MayStep c later (LoadCounter token k counter))

module _ {M : Type 0} (did : M → InitialState → List WriterStep → Type 0) (does : M → WriterStep → M → Type 0)
    (follows : (m : M) (s : WriterStep) (z : M) (c : InitialState) (steps : List WriterStep) → does m s z → did m c steps → MayStep c steps s → did z c (s ∷ steps)) where
  pub counters_loaded_none : (m : M) (token : ℕ) → HasLoadedCounters did does m token 0 m
  counters_loaded_none m token c steps d may = (steps, d, refl, may)

  pub counters_loaded_more : (m : M) (token k : ℕ) (y : M) (counter : ℕ) (z : M) → HasLoadedCounters did does m token k y → does y (LoadCounter token k counter) z
      → lets_pass token counter ≡ true → (((c : InitialState) (steps : List WriterStep) → did m c steps → k < c.workers)) → HasLoadedCounters did does m token (k + 1) z
  counters_loaded_more m token k y counter z loaded loads pass below c steps d may =
      let so_far = loaded c steps d may in
      let may_load = so_far.3 (below c steps d) counter in (
        LoadCounter token k counter ∷ so_far.0,
        follows y (LoadCounter token k counter) z c so_far.0 loads so_far.1 may_load,
        rw add-one ((y, so_far.0), counter, so_far.2, pass, (loads, refl)),
        λ more. rw add-one (next_load_may_come c so_far.0 token k counter may_load pass (omega (arith, more))),
      )

pub quiet_same : (w : TableState) → SameState w w
quiet_same w = record { words = refl; sequence = refl; history = refl; answer_changed = refl; groups = refl }

pub quiet_on : (w y z : TableState) → SameState w y → SameState y z → SameState w z
quiet_on w y z a b = record {
  words = b.words ∙ a.words;
  sequence = b.sequence ∙ a.sequence;
  history = b.history ∙ a.history;
  answer_changed = b.answer_changed ∙ a.answer_changed;
  groups = b.groups ∙ a.groups;
}

-- the progress is the same but for what is due and for a synchronize that is over
pub record IsLike (x z : WriterProgress) : Type 0 where
  pub reclaims : z.reclaims ≡ x.reclaims
  pub taken : z.taken ≡ x.taken

-- what the loads of some workers' counters leave
record Loaded (c : InitialState) (steps later : List WriterStep) : Type 0 where
  quiet : SameState (state_after c steps) (state_after c later)
  token : (state_after c later).token ≡ (state_after c steps).token
  passed : (state_after c later).passed ≡ (state_after c steps).passed
  awaited : (progress_after c later).awaited ≡ (progress_after c steps).awaited
  like : IsLike (progress_after c steps) (progress_after c later)

module _ {M : Type 0} (does : M → WriterStep → M → Type 0) (c : InitialState) where
  loaded : (n : ℕ) (x : WithSteps M) (t : ℕ) (z : WithSteps M) → n < c.workers → Loads (Goes does) n x t z → Loaded c x.1 z.1
  loaded zero x t z few h = subst (λ (y : WithSteps M). Loaded c x.1 y.1) (sym h) (record {
    quiet = quiet_same (state_after c x.1);
    token = refl;
    passed = refl;
    awaited = refl;
    like = record { reclaims = refl; taken = refl };
  })
  loaded (suc n) x t z few h =
      let y = h.0 in
      let v = h.1 in
      let before = loaded n x t y (omega (arith, few)) h.2 in
      let on = go_on c (progress_after c y.1) t n v h.3 few in
      subst (Loaded c x.1) (sym h.4.1) (record {
        quiet = record {
          words = before.quiet.words;
          sequence = before.quiet.sequence;
          history = before.quiet.history;
          answer_changed = before.quiet.answer_changed;
          groups = before.quiet.groups;
        };
        token = before.token;
        passed = not_last n v few (lets_pass t v) (state_after c y.1).passed t ∙ before.passed;
        awaited = ap (λ (k : WriterProgress). k.awaited) on ∙ before.awaited;
        like = record { reclaims = ap (λ (k : WriterProgress). k.reclaims) on ∙ before.like.reclaims; taken = ap (λ (k : WriterProgress). k.taken) on ∙ before.like.taken };
      })
    where
      not_last : (k v : ℕ) → suc k < c.workers → (b : _) (p t : ℕ) → cond (b && eqb (suc k) c.workers) (max p t) p ≡ p
      not_last k v more true p t = elim (eqb_tells (suc k) c.workers) [
        | inl e ↦ absurd (omega (arith, more, e.1))
        | inr e ↦ ap (λ b. cond b (max p t) p) e.0
      ]
      not_last k v more false p t = refl

  -- the last worker's counter was loaded and let the token pass
  last_passed : (k t v : ℕ) (y z : WithSteps M) → suc k ≡ c.workers → lets_pass t v ≡ true → Goes does y (LoadCounter t k v) z
      → ((state_after c z.1).passed ≡ max (state_after c y.1).passed t) × (progress_after c z.1 ≡ progress_after_pass (progress_after c y.1))
  last_passed k t v y z all pass goes = subst (λ steps. ((state_after c steps).passed ≡ max (state_after c y.1).passed t) × (progress_after c steps ≡ progress_after_pass (progress_after c y.1))) (sym goes.1) (
    ap (λ b. cond (b && eqb (suc k) c.workers) (max (state_after c y.1).passed t) (state_after c y.1).passed) pass ∙ ap (λ b. cond b (max (state_after c y.1).passed t) (state_after c y.1).passed) (eq-eqb (suc k) c.workers all),
    ap (λ b. cond b (cond (eqb (suc k) c.workers) (progress_after_pass (progress_after c y.1)) (record (progress_after c y.1) { next_step = Check t })) (progress_after_stop (progress_after c y.1) (progress_after c y.1).awaited)) pass
        ∙ ap (λ b. cond b (progress_after_pass (progress_after c y.1)) (record (progress_after c y.1) { next_step = Check t })) (eq-eqb (suc k) c.workers all),
  )

-- what a check that has passed leaves
pub record HasPassed (c : InitialState) (steps : List WriterStep) (t : ℕ) (later : List WriterStep) : Type 0 where
  pub quiet : SameState (state_after c steps) (state_after c later)
  pub token : (state_after c later).token ≡ (state_after c steps).token
  pub more : (state_after c steps).passed ≤ (state_after c later).passed
  pub passed : 0 < c.workers → t ≤ (state_after c later).passed
  pub idle : HasNothingDue c steps → HasNothingDue c later
  -- where the counters were loaded nothing is due, whatever was
  pub over : 0 < c.workers → (state_after c steps).passed < t → HasNothingDue c later
  pub like : IsLike (progress_after c steps) (progress_after c later)

-- what a check that a worker has stopped leaves
pub record HasStopped (c : InitialState) (steps later : List WriterStep) : Type 0 where
  pub quiet : SameState (state_after c steps) (state_after c later)
  pub token : (state_after c later).token ≡ (state_after c steps).token
  pub passed : (state_after c later).passed ≡ (state_after c steps).passed
  pub idle : HasNothingDue c steps → HasNothingDue c later
  pub taken : HasNothingDue c steps → (progress_after c later).taken ≡ (progress_after c steps).taken
  -- a token that is waited for is checked again, from worker 0 on
  pub again : (t : ℕ) → (progress_after c steps).awaited ≡ Some t → ((progress_after c later).next_step ≡ Check t) × ((progress_after c later).awaited ≡ Some t)
  pub next : (state_after c later).scan.next ≡ 0

ok_err : (busy : Busy) (r : Result (Unit {0}) Busy) → r ≡ Err busy → r ≡ Ok tt → ⊥
ok_err busy r p q = cc

module _ {M : Type 0} (does : M → WriterStep → M → Type 0) (c : InitialState) where
  all_passed : (n : ℕ) (x : WithSteps M) (t : ℕ) (z : WithSteps M) → n ≡ c.workers → Loads (Goes does) n x t z → HasPassed c x.1 t z.1
  all_passed zero x t z none h = subst (λ (y : WithSteps M). HasPassed c x.1 t y.1) (sym h) (record {
    quiet = quiet_same (state_after c x.1);
    token = refl;
    more = omega arith;
    passed = λ some. absurd (omega (arith, none, some));
    idle = λ i. i;
    over = λ some below. absurd (omega (arith, none, some));
    like = record { reclaims = refl; taken = refl };
  })
  all_passed (suc n) x t z all h =
      let y = h.0 in
      let before = loaded does c n x t y (omega (arith, all)) h.2 in
      let end = last_passed does c n t h.1 y z all h.3 h.4 in
      let quiet : SameState (state_after c y.1) (state_after c z.1) = subst (λ steps. SameState (state_after c y.1) (state_after c steps)) (sym h.4.1) (record { words = refl; sequence = refl; history = refl; answer_changed = refl; groups = refl }) in
      let idle : HasNothingDue c z.1 = record { next_step = ap (λ (k : WriterProgress). k.next_step) end.1; awaited = ap (λ (k : WriterProgress). k.awaited) end.1 } in
      record {
        quiet = quiet_on (state_after c x.1) (state_after c y.1) (state_after c z.1) before.quiet quiet;
        token = subst (λ steps. (state_after c steps).token ≡ (state_after c y.1).token) (sym h.4.1) refl ∙ before.token;
        more = subst (λ p. p ≤ (state_after c z.1).passed) before.passed (subst (λ p. (state_after c y.1).passed ≤ p) (sym end.0) (omega arith));
        passed = λ _. subst (λ p. t ≤ p) (sym end.0) (omega arith);
        idle = λ _. idle;
        over = λ _ _. idle;
        like = record { reclaims = ap (λ (k : WriterProgress). k.reclaims) end.1 ∙ before.like.reclaims; taken = ap (λ (k : WriterProgress). k.taken) end.1 ∙ before.like.taken };
      }

  pub check_passes : (x : WithSteps M) (t : ℕ) (z : WithSteps M) → Checks does c x t (Ok tt) z → HasPassed c x.1 t z.1
  check_passes x t z (inl h) = subst (λ (y : WithSteps M). HasPassed c x.1 t y.1) (sym h.2) (record {
    quiet = quiet_same (state_after c x.1);
    token = refl;
    more = omega arith;
    passed = λ _. h.0;
    idle = λ i. i;
    over = λ some below. absurd (let le = h.0 in omega (arith, le, below));
    like = record { reclaims = refl; taken = refl };
  })
  check_passes x t z (inr h) = all_passed c.workers x t z refl h.1

  stopped : (x : WithSteps M) (t : ℕ) (busy : Busy) (z : WithSteps M) → LoadsUntilStopped (Goes does) c.workers x t (Err busy) z → HasStopped c x.1 z.1
  stopped x t busy z h =
      let y = h.0 in
      let before = loaded does c busy.worker x t y h.2 h.1 in
      let stop = stops_by t busy.counter h.3 h.4 in
      let k : WriterProgress = progress_after c y.1 in
      let end : progress_after c z.1 ≡ progress_after_stop k k.awaited = subst (λ steps. progress_after c steps ≡ progress_after_stop k k.awaited) (sym h.5.1)
      (ap (λ b. cond b (cond (eqb (suc busy.worker) c.workers) (progress_after_pass k) (record k { next_step = Check t })) (progress_after_stop k k.awaited)) stop) in
      let quiet : SameState (state_after c y.1) (state_after c z.1) = subst (λ steps. SameState (state_after c y.1) (state_after c steps)) (sym h.5.1) (record { words = refl; sequence = refl; history = refl; answer_changed = refl; groups = refl }) in
      let over : HasNothingDue c x.1 → progress_after c z.1 ≡ record k { next_step = Nothing; reclaims = false } = λ i. end ∙ ap (progress_after_stop k) (before.awaited ∙ i.awaited) in
      record {
        quiet = quiet_on (state_after c x.1) (state_after c y.1) (state_after c z.1) before.quiet quiet;
        token = subst (λ steps. (state_after c steps).token ≡ (state_after c y.1).token) (sym h.5.1) refl ∙ before.token;
        passed = subst (λ steps. (state_after c steps).passed ≡ (state_after c y.1).passed) (sym h.5.1) (ap (λ b. cond (b && eqb (suc busy.worker) c.workers) (max (state_after c y.1).passed t) (state_after c y.1).passed) stop) ∙ before.passed;
        idle = λ i. record { next_step = ap (λ (k : WriterProgress). k.next_step) (over i); awaited = ap (λ (k : WriterProgress). k.awaited) (over i) ∙ before.awaited ∙ i.awaited };
        taken = λ i. ap (λ (k : WriterProgress). k.taken) (over i) ∙ before.like.taken;
        again = λ u e.
            let on = end ∙ ap (progress_after_stop k) (before.awaited ∙ e) in
            (ap (λ (k : WriterProgress). k.next_step) on, ap (λ (k : WriterProgress). k.awaited) on ∙ before.awaited ∙ e);
        next = subst (λ steps. (state_after c steps).scan.next ≡ 0) (sym h.5.1) (ap (λ b. cond b (suc busy.worker) 0) stop);
      }

  pub check_stops : (x : WithSteps M) (t : ℕ) (busy : Busy) (z : WithSteps M) → Checks does c x t (Err busy) z → HasStopped c x.1 z.1
  check_stops x t busy z (inl h) = absurd (ok_err busy (Err busy) refl h.1)
  check_stops x t busy z (inr h) = stopped x t busy z h.1

  -- all workers let a token pass that is above the greatest that had passed: it is the greatest then
  pub passed_where_all_pass : (x : WithSteps M) (t : ℕ) (z : WithSteps M) → (state_after c x.1).passed ≤ t → Loads (Goes does) c.workers x t z → 0 < c.workers → t ≡ (state_after c z.1).passed
  passed_where_all_pass x t z below h some = last c.workers refl h
    where
      last : (n : ℕ) → n ≡ c.workers → Loads (Goes does) n x t z → t ≡ (state_after c z.1).passed
      last zero all h = absurd (omega (arith, all, some))
      last (suc n) all h =
          let end = last_passed does c n t h.1 h.0 z all h.3 h.4 in
          let before = loaded does c n x t h.0 (omega (arith, all)) h.2 in
          let old : (state_after c h.0.1).passed ≤ t = subst (λ p. p ≤ t) (sym before.passed) below in
          omega (arith, end.0, old)

  -- a worker stopped the check: no greater token has passed
  pub passed_where_one_stops : (x : WithSteps M) (t : ℕ) (busy : Busy) (z : WithSteps M) → LoadsUntilStopped (Goes does) c.workers x t (Err busy) z → (state_after c z.1).passed ≡ (state_after c x.1).passed
  passed_where_one_stops x t busy z h = (stopped x t busy z h).passed

-- a token that isn't above the greatest that has passed passes without a load
pub passes_at_once : {M : Type 0} (did : M → InitialState → List WriterStep → Type 0) (does : M → WriterStep → M → Type 0) (m : M) (passed token : ℕ) → token ≤ passed
    → ChecksBy did does m passed token (Ok tt) m passed
passes_at_once did does m passed token le c steps d known may = elim (cases_eq c.workers 0) [
  | inl none ↦ (steps, d, inr ((λ some. absurd (omega (arith, none, some))), subst (λ n. Loads (Goes does) n (m, steps) token (m, steps)) (sym none) refl), known)
  | inr some ↦ (steps, d, inl (subst (λ p. token ≤ p) (known (omega (arith, some))) le, refl, refl), known)
]
