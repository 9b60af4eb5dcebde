-- The writer's steps by themselves: a change of a memory is one by its steps, whatever the memory. And what no step
-- changes of a memory, no change does.
use Rattle.std.proofs.Common.{arith, ◌≡◌, ℕ, zero, suc, inl, inr, sym, subst, List, [], ◌∷◌, length, Option, Some, None, refl, ap, ◌∙◌, ◌++◌}
use Rattle.std.specs.Prelude.{Result, Ok, Err, slice_index_or}
use Rattle.std.specs.List.{All}
use Rattle.std.proofs.lemmas.Bool.{cases_eq, cases_lt}
use Rattle.std.proofs.lemmas.List.Elements.{All-cons, All-nil}
use Rattle.lpm_bits.specs.Network.{Network}
use Rattle.lpm_cells.specs.Words.{Words}
use Rattle.lpm_groups.specs.States.{free_count}
use Rattle.lpm_limits.specs.declared.busy.Busy.{Busy}
use Rattle.lpm_limits.specs.declared.config.Config.{Config}
use Rattle.lpm_update.specs.declared.Did.{Did}
use Rattle.lpm_update.specs.declared.Did.TheVariants.{First, Second, Unlinked}
use Rattle.lpm_update.specs.declared.update.Plan.{Plan}
use Rattle.lpm_update.specs.BlockGroups.{IsTable}
use Rattle.lpm_update.specs.Laws.{IsSameWord}
use Rattle.lpm_update.specs.Step.{Steps}
use Rattle.lpm_update.specs.Update.{IsUnderWay}
use Rattle.lpm_update.proofs.Promises.{passed_stays, not_twice}
use Rattle.lpm_trace.specs.declared.step.WriterStep.{WriterStep}
use Rattle.lpm_trace.specs.declared.step.WriterStep.TheVariants.{StoreFirst, StoreSecond, BeginUpdate, EndUpdate, BumpToken, LoadCounter}
use Rattle.lpm_trace.specs.States.{InitialState, TableState, state_after}
use Rattle.fib_model.specs.State.{Reclaims, MakesRoom, State}
use Rattle.lpm_writer.specs.declared.pool.GroupPool.{GroupPool}
use Rattle.lpm_writer.specs.TokenCheck.{Loads, LoadsUntilStopped, ChecksToken}
use Rattle.lpm_writer.specs.MemorySteps.{WithSteps, Checks, by_writer, Goes, UnlinksNone, Stores, StoresOverLink, StoresAndCloses, state_of_traced}
use Rattle.lpm_writer.specs.TakenGroup.{Takes, Finds}
use Rattle.lpm_writer.specs.Steps.{StoreSameWord, since_opened, StoresOnce, IsNext, IsStore, AreStopped, by_steps_from}
use Rattle.lpm_writer.proofs.GivenUp.{Retires}
use Rattle.lpm_writer.proofs.RunningUpdate.{HasPassedStore, HasPassedStores, stored_by}
use Rattle.lpm_trace.specs.Writer.{token_after}
use Rattle.lpm_trace.proofs.Versions.{token_is, passed_is}
use Rattle.lpm_limits.specs.declared.refusal.Refusal.{Refusal}
use Rattle.lpm_rules.specs.declared.Put.{Put}
use Rattle.defer_queue.specs.declared.Reclaimed.{Reclaimed}
use Rattle.fib_model.specs.Outcomes.{Adds, Deletes, Flushes, Frees}
use Rattle.fib_model.proofs.TwoWays.{Carries, AreNamed, AreFollowed, Follows, beside}
use Rattle.fib_model.proofs.Relations.{changes_carry_over}
use Rattle.lpm_writer.proofs.Checks.{HasPassed, HasStopped, check_passes, check_stops}
use Rattle.defer_queue.specs.Reclaims as queue
use Rattle.lpm_writer.specs.Steps as by_steps

-- No word is stored twice in an update: from store to store, and over steps that store nothing.

-- ---- from store to store

-- the change has just stored the word that the step stores
abbrev pub IsStoreOf : WriterStep → Did → Type 0
IsStoreOf step did = (e : WriterStep) → StoreSameWord step e → IsSameWord (stored_by e) did

same_first : (i x : ℕ) (did : Did) → ((k : ℕ) → k ≡ i → IsSameWord (First k) did) → IsStoreOf (StoreFirst i x) did
same_first i x did is (StoreFirst k y) h = is k (sym h)
same_first i x did is e h = absurd h

pub store_first : (i x : ℕ) → IsStoreOf (StoreFirst i x) (First i)
store_first i x = same_first i x (First i) (λ k e. e)

pub store_unlink : (i x g : ℕ) → IsStoreOf (StoreFirst i x) (Unlinked i g)
store_unlink i x g = same_first i x (Unlinked i g) (λ k e. e)

pub store_second : (j x : ℕ) → IsStoreOf (StoreSecond j x) (Second j)
store_second j x (StoreSecond k y) h = sym h
store_second j x e h = absurd h

module _ (f s : ℕ) (v v' : Plan) (t t' : Words) (did : Did) (table : IsTable f s t) (under : IsUnderWay f s v t) (st : Steps f s v t did v' t')
    (steps : List WriterStep) (passed : HasPassedStores s v t.firsts steps) where
  -- what was passed before a store stays so
  pub passed_on : HasPassedStores s v' t'.firsts steps
  passed_on = λ n d low.
      let e = slice_index_or (since_opened steps) n d in
      passed_stays f s (stored_by e) did v v' t t' under (passed n d low) st

  -- the word of the store is none of those that were stored before
  pub new_word : (step : WriterStep) → IsStoreOf step did → All (λ earlier. ¬ StoreSameWord step earlier) (since_opened steps)
  new_word step is = λ n d low same.
      let e = slice_index_or (since_opened steps) n d in
      not_twice f s (stored_by e) did v v' t t' table under (passed n d low) st.stored (is e same)

-- ---- steps that store nothing

-- the later steps are the earlier ones with some after them that store nothing and open no update
pub record StoresNothing (steps later : List WriterStep) : Type 0 where
  pub once : StoresOnce steps → StoresOnce later
  pub passed : (s : ℕ) (v : Plan) (F : List ℕ) → HasPassedStores s v F steps → HasPassedStores s v F later

nothing_same : (steps : List WriterStep) → StoresNothing steps steps
nothing_same steps = record { once = λ h. h; passed = λ s v F h. h }

nothing_on : (xs ys zs : List WriterStep) → StoresNothing xs ys → StoresNothing ys zs → StoresNothing xs zs
nothing_on xs ys zs a b = record { once = λ h. b.once (a.once h); passed = λ s v F h. b.passed s v F (a.passed s v F h) }

pub nothing_bumped : (steps : List WriterStep) → StoresNothing steps (BumpToken ∷ steps)
nothing_bumped steps = record {
  once = λ h. (λ n d low same. same, h);
  passed = λ s v F h. All-cons (HasPassedStore s v F) BumpToken (since_opened steps) tt h;
}

nothing_loaded : (steps : List WriterStep) (t w k : ℕ) → StoresNothing steps (LoadCounter t w k ∷ steps)
nothing_loaded steps t w k = record {
  once = λ h. (λ n d low same. same, h);
  passed = λ s v F h. All-cons (HasPassedStore s v F) (LoadCounter t w k) (since_opened steps) tt h;
}

module _ {M : Type 0} (does : M → WriterStep → M → Type 0) (c : InitialState) where
  stays : (x z : WithSteps M) → z ≡ x → StoresNothing x.1 z.1
  stays x z e = subst (λ (y : WithSteps M). StoresNothing x.1 y.1) (sym e) (nothing_same x.1)

  loads : (n : ℕ) (x : WithSteps M) (t : ℕ) (z : WithSteps M) → Loads (Goes does) n x t z → StoresNothing x.1 z.1
  loads zero x t z h = stays x z h
  loads (suc n) x t z h = nothing_on x.1 h.0.1 z.1 (loads n x t h.0 h.2) (subst (StoresNothing h.0.1) (sym h.4.1) (nothing_loaded h.0.1 t n h.1))

  until_stopped : (workers : ℕ) (x : WithSteps M) (t : ℕ) (r : Result (Unit {0}) Busy) (z : WithSteps M) → LoadsUntilStopped (Goes does) workers x t r z → StoresNothing x.1 z.1
  until_stopped workers x t (Ok u) z h = loads workers x t z h
  until_stopped workers x t (Err busy) z h =
      nothing_on x.1 h.0.1 z.1 (loads busy.worker x t h.0 h.1) (subst (StoresNothing h.0.1) (sym h.5.1) (nothing_loaded h.0.1 t busy.worker busy.counter))

  pub after_check : (x : WithSteps M) (t : ℕ) (r : Result (Unit {0}) Busy) (z : WithSteps M) → Checks does c x t r z → StoresNothing x.1 z.1
  after_check x t r z (inl h) = stays x z h.2
  after_check x t r z (inr h) = until_stopped c.workers x t r z h.1

  front : (n : ℕ) (names : List ℕ) (x : WithSteps M) (left : List ℕ) (z : WithSteps M) → queue.FreesFront (Checks does c) (λ y name w. w ≡ y) n names x left z → StoresNothing x.1 z.1
  front zero names x left z h = stays x z h.1
  front (suc n) [] x left z h = absurd h
  front (suc n) (name ∷ names) x left z h =
      nothing_on x.1 h.1.1 z.1 (nothing_on x.1 h.0.1 h.1.1 (after_check x name (Ok tt) h.0 h.2) (stays h.0 h.1 h.3)) (front n names h.1 left z h.4)

  ends : (max n : ℕ) (left : List ℕ) (x : WithSteps M) (stopped : Option Busy) (z : WithSteps M) → queue.Ends (Checks does c) (λ y name w. w ≡ y) max n left x stopped z → StoresNothing x.1 z.1
  ends max n left x None z h = stays x z h.1
  ends max n [] x (Some busy) z h = absurd h
  ends max n (name ∷ left) x (Some busy) z h = after_check x name (Err busy) z h.1

  pub after_reclaim : (x : WithSteps M) (max : ℕ) (limbo : List ℕ) (freed : ℕ) (stopped : Option Busy) (left : List ℕ) (z : WithSteps M)
      → Reclaims (by_writer does c) x max limbo freed stopped left z → StoresNothing x.1 z.1
  after_reclaim x max limbo freed stopped left z h =
      nothing_on x.1 h.last.1 z.1 (front freed limbo x left h.last h.front) (ends max freed left h.last stopped z h.end)

  room : (config : Config) (x : WithSteps M) (limbo left : List ℕ) (z : WithSteps M) → MakesRoom (by_writer does c) config x limbo left z → StoresNothing x.1 z.1
  room config x limbo left z h = elim (cases_lt config.threshold (length limbo)) [
    | inl more ↦ let k = h.0 more in after_reclaim x config.reclaim_max limbo k.0 k.1 left z k.2
    | inr few ↦ stays x z (h.1 few).1
  ]

  pub after_retire : (config : Config) (x : WithSteps M) (limbo : List ℕ) (z : WithSteps M) (left : List ℕ) → Retires does c config x limbo z left → StoresNothing x.1 z.1
  after_retire config x limbo z left h =
      nothing_on x.1 h.0.1 z.1 (subst (StoresNothing x.1) (sym h.2.1) (nothing_bumped x.1)) (room config h.0 limbo h.1 z h.3)

  takes : (x : WithSteps M) (old : GroupPool) (r : Result ℕ (Option Busy)) (z : WithSteps M) (new : GroupPool) → Takes (by_writer does c) x old r z new → StoresNothing x.1 z.1
  takes x old (Ok g) z new h = elim (cases_eq (free_count old.groups) 0) [
    | inl none ↦ let k = h.1 none in after_check x k.0 (Ok tt) z k.2
    | inr some ↦ stays x z (h.0 (omega (arith, some))).2
  ]
  takes x old (Err None) z new h = stays x z h.1.1
  takes x old (Err (Some busy)) z new h = after_check x h.1.0 (Err busy) z h.1.2

  pub after_find : (f s : ℕ) (firsts : List ℕ) (p : Network) (x : WithSteps M) (old : GroupPool) (r : Result (Option ℕ) (Option Busy)) (z : WithSteps M) (new : GroupPool)
      → Finds (by_writer does c) f s firsts p x old r z new → StoresNothing x.1 z.1
  after_find f s firsts p x old (Ok None) z new h = stays x z h.1
  after_find f s firsts p x old (Ok (Some g)) z new h = takes x old (Ok g) z new h.2
  after_find f s firsts p x old (Err oldest) z new h = takes x old (Err oldest) z new h.1

pub named_same : (ms : List ℕ) → AreNamed (λ m n. n ≡ m) ms ms
named_same [] = tt
named_same (m ∷ ms) = (refl, named_same ms)

pub named_is : (ms ns : List ℕ) → AreNamed (λ m n. n ≡ m) ms ns → ns ≡ ms
named_is [] [] h = refl
named_is [] (n ∷ ns) h = absurd h
named_is (m ∷ ms) [] h = absurd h
named_is (m ∷ ms) (n ∷ ns) h = ap (λ x. x ∷ ns) h.0 ∙ ap (λ xs. m ∷ xs) (named_is ms ns h.1)

-- z has some stores more than x
abbrev HasStored : List WriterStep → List WriterStep → Type 0
HasStored x z = (added : List WriterStep) × All IsStore added × (z ≡ added ++ x)

-- stores, and then one more, and what was there before
more_stores : (x y z : List WriterStep) (s : WriterStep) → IsStore s → HasStored x y → z ≡ s ∷ y → HasStored x z
more_stores x y z s store h is =
    (s ∷ h.0, All-cons IsStore s h.0 store h.1, is ∙ ap (λ l. s ∷ l) h.2)

is_store : (w : TableState) (s : WriterStep) → UnlinksNone w s → IsStore s
is_store w (StoreFirst i x) h = tt
is_store w (StoreSecond j x) h = tt
is_store w s h = absurd h

-- a check, where its steps are read another way
module _ {X Y : Type 0} (goes : X → WriterStep → X → Type 0) (goes_on : Y → WriterStep → Y → Type 0) (f : X → Y)
    (on : (x : X) (s : WriterStep) (z : X) → goes x s z → goes_on (f x) s (f z)) where
  loads_on : (n : ℕ) (x z : X) (token : ℕ) → Loads goes n x token z → Loads goes_on n (f x) token (f z)
  loads_on zero x z token h = ap f h
  loads_on (suc n) x z token h = (f h.0, h.1, loads_on n x h.0 token h.2, h.3, on h.0 (LoadCounter token n h.1) z h.4)

  until_stopped_on : (workers : ℕ) (x z : X) (token : ℕ) (r : Result (Unit {0}) Busy) → LoadsUntilStopped goes workers x token r z → LoadsUntilStopped goes_on workers (f x) token r (f z)
  until_stopped_on workers x z token (Ok passed) h = loads_on workers x z token h
  until_stopped_on workers x z token (Err busy) h = (f h.0, loads_on busy.worker x h.0 token h.1, h.2, h.3, h.4, on h.0 (LoadCounter token busy.worker busy.counter) z h.5)

  checks_on : (workers passed same : ℕ) → same ≡ passed → (x z : X) (token : ℕ) (r : Result (Unit {0}) Busy) → ChecksToken goes workers passed x token r z → ChecksToken goes_on workers same (f x) token r (f z)
  checks_on workers passed same e x z token r (inl h) = inl (omega (arith, h.0, e), h.1, ap f h.2)
  checks_on workers passed same e x z token r (inr h) = inr ((λ some. let low = h.0 some in omega (arith, low, e)), until_stopped_on workers x z token r h.1)

module _ (M : Type 0) (does : M → WriterStep → M → Type 0) (c : InitialState) where
  same : (x z : WithSteps M) → z ≡ x → z.1 ≡ x.1
  same x z e = ap (λ (t : WithSteps M). t.1) e

  pub checks_alone : (x z : WithSteps M) (token : ℕ) (r : Result (Unit {0}) Busy) → Checks does c x token r z → by_steps.Checks c.workers x.1 token r z.1
  checks_alone x z token r h = checks_on (Goes does) IsNext (λ y. y.1) (λ x s z h. h.1) c.workers _ _ (sym (passed_is c x.1)) x z token r h

  stores : (n : ℕ) (x z : WithSteps M) → Stores does c n x z → HasStored x.1 z.1
  stores zero x z h = ([], All-nil IsStore, same x z h)
  stores (suc n) x z h = more_stores x.1 h.0.1 z.1 h.1 (is_store (state_of_traced c h.0) h.1 h.3) (stores n x h.0 h.2) h.4.1

  over_link : (x z : WithSteps M) (name : ℕ) → StoresOverLink does c x name z → (by_steps_from c.workers c.token).unlinks x.1 name z.1
  over_link x z name h =
      let before = stores h.0 x h.1 h.6 in (
        before.0,
        h.3,
        h.4,
        before.1,
        h.9.1 ∙ ap (λ l. BumpToken ∷ l) (h.8.1 ∙ ap (λ l. StoreFirst h.3 h.4 ∷ l) before.2),
        h.10 ∙ token_is c z.1,
      )

  closes : (x z : WithSteps M) → StoresAndCloses does c x z → (by_steps_from c.workers c.token).ends x.1 z.1
  closes x z h =
      let before = stores h.0 x h.1 h.2 in
      (before.0, before.1, h.3.1 ∙ ap (λ l. EndUpdate ∷ l) before.2)

  -- what no step changes
  module _ (F : Type 0) (fixed : M → F) (stays : (m : M) (s : WriterStep) (z : M) → does m s z → fixed z ≡ fixed m) where
    goes_fixed : (x z : WithSteps M) (s : WriterStep) → Goes does x s z → fixed z.0 ≡ fixed x.0
    goes_fixed x z s h = stays x.0 s z.0 h.0

    same_fixed : (x z : WithSteps M) → z ≡ x → fixed z.0 ≡ fixed x.0
    same_fixed x z e = ap (λ (t : WithSteps M). fixed t.0) e

    loads_fixed : (n : ℕ) (x z : WithSteps M) (token : ℕ) → Loads (Goes does) n x token z → fixed z.0 ≡ fixed x.0
    loads_fixed zero x z token h = same_fixed x z h
    loads_fixed (suc n) x z token h = goes_fixed h.0 z (LoadCounter token n h.1) h.4 ∙ loads_fixed n x h.0 token h.2

    until_stopped_fixed : (workers : ℕ) (x z : WithSteps M) (token : ℕ) (r : Result (Unit {0}) Busy) → LoadsUntilStopped (Goes does) workers x token r z → fixed z.0 ≡ fixed x.0
    until_stopped_fixed workers x z token (Ok passed) h = loads_fixed workers x z token h
    until_stopped_fixed workers x z token (Err busy) h = goes_fixed h.0 z (LoadCounter token busy.worker busy.counter) h.5 ∙ loads_fixed busy.worker x h.0 token h.1

    pub checks_fixed : (x z : WithSteps M) (token : ℕ) (r : Result (Unit {0}) Busy) → Checks does c x token r z → fixed z.0 ≡ fixed x.0
    checks_fixed x z token r (inl h) = same_fixed x z h.2
    checks_fixed x z token r (inr h) = until_stopped_fixed c.workers x z token r h.1

    stores_fixed : (n : ℕ) (x z : WithSteps M) → Stores does c n x z → fixed z.0 ≡ fixed x.0
    stores_fixed zero x z h = same_fixed x z h
    stores_fixed (suc n) x z h = goes_fixed h.0 z h.1 h.4 ∙ stores_fixed n x h.0 h.2

    over_link_fixed : (x z : WithSteps M) (name : ℕ) → StoresOverLink does c x name z → fixed z.0 ≡ fixed x.0
    over_link_fixed x z name h = goes_fixed h.2 z BumpToken h.9 ∙ (goes_fixed h.1 h.2 (StoreFirst h.3 h.4) h.8 ∙ stores_fixed h.0 x h.1 h.6)

    closes_fixed : (x z : WithSteps M) → StoresAndCloses does c x z → fixed z.0 ≡ fixed x.0
    closes_fixed x z h = goes_fixed h.1 z EndUpdate h.3 ∙ stores_fixed h.0 x h.1 h.2

    -- these are the steps of a memory with its steps, and it is of the kind f
    module _ (kind : F) where
      abbrev pub IsOfSteps : WithSteps M → List WriterStep → Type 0
      IsOfSteps x y = (y ≡ x.1) × (fixed x.0 ≡ kind)

      abbrev pub HasName : WithSteps M → List WriterStep → ℕ → ℕ → Type 0
      HasName x y m n = n ≡ m

      steps_carry : Carries (by_writer does c) (by_steps_from c.workers c.token) IsOfSteps HasName
      steps_carry = record {
        token = λ x y e. ap (token_after c.token) e.0 ∙ sym (token_is c x.1);
        checks = λ x z y m n r e name h. (
          z.1,
          subst (λ t. by_steps.Checks c.workers y t r z.1) (sym name)
              (subst (λ w. by_steps.Checks c.workers w m r z.1) (sym e.0) (checks_alone x z m r h)),
          ((refl, checks_fixed x z m r h ∙ e.1), λ a b k. k),
        );
        begins = λ x z y e h. (
          z.1,
          (h.0, h.1.1 ∙ ap (λ w. BeginUpdate h.0 ∷ w) (sym e.0)),
          ((refl, goes_fixed x z (BeginUpdate h.0) h.1 ∙ e.1), λ a b k. k),
        );
        unlinks = λ x z y m e h. (
          z.1,
          m,
          subst (λ w. (by_steps_from c.workers c.token).unlinks w m z.1) (sym e.0) (over_link x z m h),
          refl,
          ((refl, over_link_fixed x z m h ∙ e.1), λ a b k. k),
        );
        ends = λ x z y e h. (
          z.1,
          subst (λ w. (by_steps_from c.workers c.token).ends w z.1) (sym e.0) (closes x z h),
          ((refl, closes_fixed x z h ∙ e.1), λ a b k. k),
        );
      }

      -- ---- whole changes

      abbrev pub state_alone : State (WithSteps M) → State (List WriterStep)
      state_alone s = record { rules = s.rules; readers = s.readers.1; limbo = s.limbo; updates_begun = s.updates_begun }

      told_alone : (z : State (WithSteps M)) (D : State (List WriterStep) → Type 0) → Follows IsOfSteps HasName z D → D (state_alone z) × (fixed z.readers.0 ≡ kind)
      told_alone z D h = (subst (λ l. D (beside z z.readers.1 l)) (named_is z.limbo h.1 h.4) (subst (λ w. D (beside z w h.1)) h.3.0 h.2), h.3.1)

      module _ (f g : ℕ) (config : Config) (s z : State (WithSteps M)) (at : fixed s.readers.0 ≡ kind) where
        followed : AreFollowed (by_writer does c) (by_steps_from c.workers c.token) IsOfSteps HasName f g config s (beside s s.readers.1 s.limbo)
        followed = changes_carry_over (WithSteps M) (List WriterStep) (by_writer does c) (by_steps_from c.workers c.token) IsOfSteps HasName steps_carry f g config s s.readers.1 s.limbo (refl, at) (named_same s.limbo)

        pub adds_alone : (p : Network) (h : ℕ) (r : Result Put Refusal) → Adds (by_writer does c) f g config s p h r z → Adds (by_steps_from c.workers c.token) f g config (state_alone s) p h r (state_alone z) × (fixed z.readers.0 ≡ kind)
        adds_alone p h r d = told_alone z (Adds (by_steps_from c.workers c.token) f g config (state_alone s) p h r) (followed.adds z p h r d)

        pub deletes_alone : (p : Network) (r : Result ℕ Refusal) → Deletes (by_writer does c) f g config s p r z → Deletes (by_steps_from c.workers c.token) f g config (state_alone s) p r (state_alone z) × (fixed z.readers.0 ≡ kind)
        deletes_alone p r d = told_alone z (Deletes (by_steps_from c.workers c.token) f g config (state_alone s) p r) (followed.deletes z p r d)

        pub flushes_alone : (r : Result ℕ Refusal) → Flushes (by_writer does c) f g config s r z → Flushes (by_steps_from c.workers c.token) f g config (state_alone s) r (state_alone z) × (fixed z.readers.0 ≡ kind)
        flushes_alone r d = told_alone z (Flushes (by_steps_from c.workers c.token) f g config (state_alone s) r) (followed.flushes z r d)

        pub frees_alone : (max : ℕ) (r : Reclaimed) → Frees (by_writer does c) s max r z → Frees (by_steps_from c.workers c.token) (state_alone s) max r (state_alone z) × (fixed z.readers.0 ≡ kind)
        frees_alone max r d = told_alone z (Frees (by_steps_from c.workers c.token) (state_alone s) max r) (followed.frees z max r d)

-- ---- what a check by the steps alone leaves

abbrev AnyMemory : Unit {0} → WriterStep → Unit {0} → Type 0
AnyMemory m s z = Unit {0}

module _ (c : InitialState) where
  checks_of : (x z : List WriterStep) (token : ℕ) (r : Result (Unit {0}) Busy) → by_steps.Checks c.workers x token r z → Checks AnyMemory c (tt, x) token r (tt, z)
  checks_of x z token r h = checks_on IsNext (Goes AnyMemory) (λ l. (tt, l)) (λ x s z h. (tt, h)) c.workers _ _ (passed_is c x) x z token r h

  pub steps_passed : (x : List WriterStep) (token : ℕ) (z : List WriterStep) → by_steps.Checks c.workers x token (Ok tt) z → HasPassed c x token z
  steps_passed x token z h = check_passes AnyMemory c (tt, x) token (tt, z) (checks_of x z token (Ok tt) h)

  pub steps_stopped : (x : List WriterStep) (token : ℕ) (busy : Busy) (z : List WriterStep) → by_steps.Checks c.workers x token (Err busy) z → HasStopped c x z
  steps_stopped x token busy z h = check_stops AnyMemory c (tt, x) token busy (tt, z) (checks_of x z token (Err busy) h)

  -- checks that are stopped start no token
  pub stopped_token : (n : ℕ) (x : List WriterStep) (token : ℕ) (z : List WriterStep) → AreStopped c.workers n x token z → (state_after c z).token ≡ (state_after c x).token
  stopped_token zero x token z h = ap (λ l. (state_after c l).token) h
  stopped_token (suc n) x token z h = (steps_stopped h.0 token h.1 z h.3).token ∙ stopped_token n x token h.0 h.2
