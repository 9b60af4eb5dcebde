-- The writer's steps over the memory of one thread, told by the token and the counters alone.
use Rattle.std.proofs.Common.{arith, ◌≡◌, ℕ, zero, suc, ◌+◌, ◌<◌, ◌≤◌, inl, inr, refl, ap, sym, ◌∙◌, subst, List, ◌∷◌, length, slice_index, Result, Ok, Err, Bool, true, false, cond, ◌&&◌, eqb, leb, max, add-one}
use Rattle.std.proofs.Math.Nat.{max-le}
use Rattle.std.proofs.lemmas.Bool.{cases_lt, leb-true}
use Rattle.std.proofs.lemmas.Bool.Decides.{eqb_tells}
use Rattle.qsbr.specs.Counters.{IsPast, Passes, Registry}
use Rattle.lpm_limits.specs.declared.busy.Busy.{Busy}
use Rattle.fib_model.specs.State.{looks}
use Rattle.fib_model.specs.Counters.{counter_transitions, IsFirstByCounter}
use Rattle.fib_model.proofs.TwoWays.{Carries, IsCarried}
use Rattle.lpm_trace.specs.declared.step.WriterStep.{WriterStep}
use Rattle.lpm_trace.specs.declared.step.WriterStep.TheVariants.{StoreFirst, StoreSecond, BeginUpdate, EndUpdate, BumpToken, LoadCounter}
use Rattle.lpm_trace.specs.States.{InitialState, state_after, lets_pass}
use Rattle.lpm_writer.specs.declared.plain_memory.PlainMemory.{PlainMemory}
use Rattle.lpm_writer.specs.Plain.{PlainDoes}
use Rattle.lpm_writer.specs.TokenCheck.{Loads}
use Rattle.lpm_writer.specs.MemorySteps.{WithSteps, Goes, Checks, Stores, UnlinksNone, by_writer}

-- ---- counters and tokens

max_past : (a b counter : ℕ) → IsPast a counter → IsPast b counter → IsPast (max a b) counter
max_past a b counter (inl e) q = inl e
max_past a b counter (inr p) (inl e) = inl e
max_past a b counter (inr p) (inr q) = inr (max-le p q)

-- a counter that lets a token pass is past it
lets_past : (token counter : ℕ) → lets_pass token counter ≡ true → IsPast token counter
lets_past token counter h = elim (eqb_tells counter 0) [
  | inl e ↦ inl e.1
  | inr n ↦ inr (leb-true token counter (sym (ap (λ b. cond b true (leb token counter)) n.0) ∙ h))
]

older_past : (old token counter : ℕ) → old ≤ token → IsPast token counter → IsPast old counter
older_past old token counter le (inl e) = inl e
older_past old token counter le (inr p) = inr (omega (arith, le, p))

not_past : (token counter : ℕ) → 0 < counter → counter < token → IsPast token counter → ⊥
not_past token counter some behind (inl e) = omega (arith, e, some)
not_past token counter some behind (inr p) = omega (arith, p, behind)

-- ---- a memory, by its token and its counters

module _ (first second : ℕ) (c : InitialState) where
  abbrev Memory : Type 0
  Memory = PlainMemory first second

  -- what one step leads to, as the memory of one thread says it
  abbrev pub does : Memory → WriterStep → Memory → Type 0
  does m s z = PlainDoes s m.cells m.domain z.cells z.domain

  -- the memory has this token and these counters, each of which is past the tokens that have passed
  pub record Shows (x : WithSteps Memory) (r : Registry) : Type 0 where
    pub domain : x.0.domain ≡ r
    pub workers : length r.counters ≡ c.workers
    pub token : (state_after c x.1).token ≡ r.token
    pub passed : Passes (state_after c x.1).passed r.counters

  -- a step that starts no token and loads no counter
  abbrev Leaves : WriterStep → Type 0
  Leaves BumpToken = ⊥
  Leaves (LoadCounter token worker counter) = ⊥
  Leaves s = Unit {0}

  leaves_token : (s : WriterStep) (steps : List WriterStep) → Leaves s → ((state_after c (s ∷ steps)).token ≡ (state_after c steps).token) × ((state_after c (s ∷ steps)).passed ≡ (state_after c steps).passed)
  leaves_token BumpToken steps h = absurd h
  leaves_token (LoadCounter token worker counter) steps h = absurd h
  leaves_token s steps h = (refl, refl)

  leaves_domain : (m z : Memory) (s : WriterStep) → Leaves s → does m s z → z.domain ≡ m.domain
  leaves_domain m z BumpToken h d = absurd h
  leaves_domain m z (LoadCounter token worker counter) h d = absurd h
  leaves_domain m z s h d = d.reports

  stays : (x z : WithSteps Memory) (r : Registry) (s : WriterStep) → Leaves s → Shows x r → Goes does x s z → Shows z r
  stays x z r s h k goes =
      let same = leaves_token s x.1 h in
      record {
        domain = leaves_domain x.0 z.0 s h goes.0 ∙ k.domain;
        workers = k.workers;
        token = ap (λ steps. (state_after c steps).token) goes.1 ∙ same.0 ∙ k.token;
        passed = subst (λ p. Passes p r.counters) (sym (ap (λ steps. (state_after c steps).passed) goes.1 ∙ same.1)) k.passed;
      }

  bumps : (x z : WithSteps Memory) (r : Registry) → Shows x r → Goes does x BumpToken z → Shows z (record r { token = r.token + 1 })
  bumps x z r k goes = record {
    domain = goes.0.reports ∙ ap (λ (d : Registry). record d { token = d.token + 1 }) k.domain;
    workers = k.workers;
    token = ap (λ steps. (state_after c steps).token) goes.1 ∙ rw add-one (ap suc k.token);
    passed = subst (λ p. Passes p r.counters) (sym (ap (λ steps. (state_after c steps).passed) goes.1)) k.passed;
  }

  -- ---- stores

  plain_leaves : (x : WithSteps Memory) (s : WriterStep) → UnlinksNone (state_after c x.1) s → Leaves s
  plain_leaves x (StoreFirst i w) h = tt
  plain_leaves x (StoreSecond j w) h = tt
  plain_leaves x s h = absurd h

  stored : (n : ℕ) (x z : WithSteps Memory) (r : Registry) → Shows x r → Stores does c n x z → Shows z r
  stored zero x z r k h = subst (λ y. Shows y r) (sym h) k
  stored (suc n) x z r k h = stays h.0 z r h.1 (plain_leaves h.0 h.1 h.3) (stored n x h.0 r k h.2) h.4

  -- ---- checks

  -- the workers below n have left the token behind
  abbrev AreThrough : ℕ → ℕ → List ℕ → Type 0
  AreThrough n token counters = (w : ℕ) → w < n → IsPast token (slice_index counters w)

  one_more : (n token : ℕ) (counters : List ℕ) → AreThrough n token counters → IsPast token (slice_index counters n) → AreThrough (suc n) token counters
  one_more n token counters h last w low = elim (cases_lt w n) [
    | inl below ↦ h w below
    | inr above ↦ let e : n ≡ w = omega (arith, above, low) in subst (λ v. IsPast token (slice_index counters v)) e last
  ]

  -- the greatest token that has passed, after the counter of worker n was loaded
  passed_now : (n token p : ℕ) (r : Registry) → length r.counters ≡ c.workers → Passes p r.counters → AreThrough n token r.counters → (b : Bool) → (b ≡ true → IsPast token (slice_index r.counters n))
      → Passes (cond (b && eqb (suc n) c.workers) (max p token) p) r.counters
  passed_now n token p r size k through false h = k
  passed_now n token p r size k through true h = elim (eqb_tells (suc n) c.workers) [
    | inl all ↦ subst (λ b. Passes (cond b (max p token) p) r.counters) (sym all.0)
        (λ w low. max_past p token (slice_index r.counters w) (k w low) (one_more n token r.counters through (h refl) w (let e = all.1 in omega (arith, e, low, size))))
    | inr more ↦ subst (λ b. Passes (cond b (max p token) p) r.counters) (sym more.0) k
  ]

  -- the counter of one more worker was loaded
  loaded : (n token counter : ℕ) (y z : WithSteps Memory) (r : Registry) → Shows y r → AreThrough n token r.counters → Goes does y (LoadCounter token n counter) z → Shows z r × (counter ≡ slice_index r.counters n)
  loaded n token counter y z r k through goes =
      let found : counter ≡ slice_index r.counters n = goes.0.finds ∙ ap (λ (d : Registry). slice_index d.counters n) k.domain in (
        record {
          domain = goes.0.reports ∙ k.domain;
          workers = k.workers;
          token = ap (λ steps. (state_after c steps).token) goes.1 ∙ k.token;
          passed = subst (λ steps. Passes (state_after c steps).passed r.counters) (sym goes.1)
              (passed_now n token (state_after c y.1).passed r k.workers k.passed through (lets_pass token counter) (λ e. subst (IsPast token) found (lets_past token counter e)));
        },
        found,
      )

  loads : (n token : ℕ) (x z : WithSteps Memory) (r : Registry) → Shows x r → Loads (Goes does) n x token z → Shows z r × AreThrough n token r.counters
  loads zero token x z r k h = (subst (λ y. Shows y r) (sym h) k, λ w low. absurd (omega (arith, low)))
  loads (suc n) token x z r k h =
      let before = loads n token x h.0 r k h.2 in
      let now = loaded n token h.1 h.0 z r before.0 before.1 h.4 in
      (now.0, one_more n token r.counters before.1 (subst (IsPast token) now.1 (lets_past token h.1 h.3)))

  -- no worker holds a token that all have left behind
  none_holds : (token : ℕ) (r : Registry) → Passes token r.counters → (busy : Busy) → IsFirstByCounter r token busy → ⊥
  none_holds token r h busy held =
      let it = held.0.holds in
      not_past token (slice_index r.counters busy.worker) it.online it.behind (h busy.worker it.registered)

  checked : (x z : WithSteps Memory) (r : Registry) (token : ℕ) (result : Result (Unit {0}) Busy) → Shows x r → Checks does c x token result z → looks IsFirstByCounter r token result r × Shows z r
  checked x z r token result k (inl h) =
      let old : Passes token r.counters = λ w low. older_past token (state_after c x.1).passed (slice_index r.counters w) h.0 (k.passed w low) in
      (subst (λ a. looks IsFirstByCounter r token a r) (sym h.1) (none_holds token r old, refl), subst (λ y. Shows y r) (sym h.2) k)
  checked x z r token (Ok passed) k (inr h) =
      let all = loads c.workers token x z r k h.1 in
      let workers = k.workers in
      ((none_holds token r (λ w low. all.1 w (omega (arith, low, workers))), refl), all.0)
  checked x z r token (Err busy) k (inr h) =
      let stop = h.1 in
      let before = loads busy.worker token x stop.0 r k stop.1 in
      let now = loaded busy.worker token busy.counter stop.0 z r before.0 before.1 stop.5 in
      let workers = k.workers in
      let low = stop.2 in (
        (
          (
            record {
              holds = record {
                registered = omega (arith, low, workers);
                online = subst (λ n. 0 < n) now.1 stop.3;
                behind = subst (λ n. n < token) now.1 stop.4;
              };
              first = before.1;
            },
            now.1,
          ),
          refl,
        ),
        now.0,
      )

  -- ---- changes

  abbrev pub same_name : WithSteps Memory → Registry → ℕ → ℕ → Type 0
  same_name x r m n = n ≡ m

  kept : (x z : WithSteps Memory) (r w : Registry) → Shows z w → IsCarried Shows same_name x r z w
  kept x z r w k = (k, λ m n e. e)

  pub carries : Carries (by_writer does c) counter_transitions Shows same_name
  carries = record {
    token = λ x r k. sym k.token;
    checks = λ x z r m n result k e h.
        let now = checked x z r m result k h in
        (r, subst (λ u. looks IsFirstByCounter r u result r) (sym e) now.0, kept x z r r now.1);
    begins = λ x z r k h. (r, refl, kept x z r r (stays x z r (BeginUpdate h.0) tt k h.1));
    unlinks = λ x z r m k h.
        let p = stored h.0 x h.1 r k h.6 in
        let q = stays h.1 h.2 r (StoreFirst h.3 h.4) tt p h.8 in
        let now = bumps h.2 z r q h.9 in
        let w : Registry = record r { token = r.token + 1 } in
        (w, r.token + 1, (refl, refl), sym (h.10 ∙ now.token), kept x z r w now);
    ends = λ x z r k h.
        let p = stored h.0 x h.1 r k h.2 in
        (r, refl, kept x z r r (stays h.1 z r EndUpdate tt p h.3));
  }
