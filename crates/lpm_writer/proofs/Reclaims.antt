-- A reclaim, from item to item.
use Rattle.std.proofs.Common.{◌≡◌, ℕ, zero, suc, true, refl, sym, ap, subst, ◌∙◌, List, [], ◌∷◌, ◌++◌, Option, arith, ◌%◌, ◌<◌, ◌≤◌, ◌⊎◌, inl, inr, Some, None, ◌+◌}
use Rattle.std.specs.Prelude.{slice_set, slice_get, Result, Ok, Err, OnOk, OnErr}
use Rattle.lpm_groups.specs.declared.GroupState.TheVariants.{Limbo, Free, Linked as LinkedTo}
use Rattle.lpm_trace.specs.declared.step.WriterStep.{WriterStep}
use Rattle.lpm_trace.specs.declared.step.WriterStep.TheVariants.{BumpToken}
use Rattle.lpm_trace.specs.States.{InitialState, state_after, TableState, Status, Unused, Linked, Retired, IsFree, IsUpdating}
use Rattle.lpm_trace.specs.Progress.{WriterProgress, Nothing, progress_after_bump, IsBumped as MayBump, IsOldest, IsLoadDue}
use Rattle.lpm_trace.specs.Writer.{progress_after, MayStep}
use Rattle.lpm_writer.specs.declared.pool.GroupPool.{GroupPool}
use Rattle.lpm_writer.specs.Limbo.{AreWaiting, tokens_of}
use Rattle.lpm_writer.specs.Commands.{ChecksBy, IsReclaimable, HasPassedFront}
use Rattle.lpm_writer.specs.GroupsMatch.{OnlyChecks, GroupsMatchSteps, MayReclaim, AreAfter, AreRetired, AreBelow, IsAmong, GroupsMatchState, IsLimbo, MayLoadCounters, Remembers}
use Rattle.lpm_writer.proofs.GivenUp.{HasUnlinked, HasRetired}
use Rattle.lpm_writer.proofs.LimboItems.{free_linked, freed_states, waiting_set}
use Rattle.lpm_writer.proofs.Checks.{quiet_on, HasPassed, HasStopped, quiet_same, check_passes, check_stops, passes_at_once}
use Rattle.std.proofs.lemmas.Bool.{cases_eq}
use Rattle.std.proofs.lemmas.Option.{same_Some, slice_get_within}
use Rattle.defer_queue.specs.RetiredGroups.{IsAbsent}
use Rattle.lpm_groups.specs.declared.GroupState.{GroupState}
use Rattle.lpm_groups.specs.States.{IsLimboAt, IsFreeAt}
use Rattle.lpm_groups.proofs.Marks.{slice_get-set_same, slice_get-set_other}
use Rattle.lpm_limits.specs.declared.busy.Busy.{Busy}
use Rattle.fib_model.specs.State.{Reclaims}
use Rattle.defer_queue.specs.Reclaims.{FreesFront}
use Rattle.defer_queue.specs.Reclaims as queue
use Rattle.defer_queue.proofs.Longest.{FreesFront-more}
use Rattle.lpm_writer.specs.MemorySteps.{WithSteps, Checks, by_writer}

-- A group that is retired: its token is bumped, and it goes last into limbo.

pub tokens_append : (xs : List (ℕ × ℕ)) (g t : ℕ) → tokens_of (xs ++ (g, t) ∷ []) ≡ tokens_of xs ++ t ∷ []
tokens_append [] g t = refl
tokens_append (x ∷ xs) g t = ap (λ ys. x.1 ∷ ys) (tokens_append xs g t)

pub may_bump : (c : InitialState) (steps : List WriterStep) (pool : GroupPool) (g : ℕ) (held : Option ℕ) → HasUnlinked c steps pool g held → MayStep c steps BumpToken
may_bump c steps pool g held h = (tt, subst (MayBump (state_after c steps)) (sym h.next_step) tt)

after_bump : (c : InitialState) (steps : List WriterStep) (pool : GroupPool) (g : ℕ) (held : Option ℕ) → HasUnlinked c steps pool g held
    → progress_after c (BumpToken ∷ steps) ≡ record (progress_after c steps) { next_step = Nothing; reclaims = true }
after_bump c steps pool g held h = ap (progress_after_bump c (state_after c steps).token (progress_after c steps)) h.next_step

pub keeps_bumped : (c : InitialState) (steps : List WriterStep) (pool : GroupPool) (g : ℕ) (held : Option ℕ) → HasUnlinked c steps pool g held
    → GroupsMatchSteps c (BumpToken ∷ steps) (slice_set pool.groups g Limbo) (pool.queue.items ++ (g, suc (state_after c steps).token) ∷ []) pool.passed held
keeps_bumped c steps pool g held h = record {
  kept = record { free = h.kept.free; linked = h.kept.linked; taken = h.kept.taken; rising = h.kept.rising; retired = h.kept.retired; all = h.kept.all };
  remembers = h.remembers;
}

pub may_make_room : (c : InitialState) (steps : List WriterStep) (pool : GroupPool) (g : ℕ) (held : Option ℕ) → HasUnlinked c steps pool g held
    → MayReclaim c (BumpToken ∷ steps) pool.queue.items
may_make_room c steps pool g held h =
    let on = after_bump c steps pool g held h in
    record {
      idle = record { next_step = ap (λ (x : WriterProgress). x.next_step) on; awaited = ap (λ (x : WriterProgress). x.awaited) on ∙ h.awaited };
      updating = λ _. ap (λ (x : WriterProgress). x.reclaims) on;
      before = λ _. h.started;
    }

pub bumped_on : (c : InitialState) (steps later : List WriterStep) (pool : GroupPool) (g : ℕ) (held : Option ℕ) → HasUnlinked c steps pool g held
    → OnlyChecks c (BumpToken ∷ steps) later → HasRetired c steps later
bumped_on c steps later pool g held h still = record {
  quiet = quiet_on (state_after c steps) (state_after c (BumpToken ∷ steps)) (state_after c later) (record { words = refl; sequence = refl; history = refl; answer_changed = refl; groups = refl }) still.quiet;
  token = still.token;
  taken = still.taken ∙ ap (λ (x : WriterProgress). x.taken) (after_bump c steps pool g held h);
  idle = still.idle;
}

-- What a writer keeps of its groups, from step to step.

-- ---- where more tokens have passed

free_more : (c : InitialState) (p q : ℕ) (s : Status) → p ≤ q → IsFree c p s → IsFree c q s
free_more c p q Unused le h = tt
free_more c p q (Linked block) le h = h
free_more c p q (Retired token) le (inl h) = inl (omega (arith, h, le))
free_more c p q (Retired token) le (inr h) = inr h

pub kept_quiet : (c : InitialState) (w z : TableState) (token : ℕ) (states : List GroupState) (items : List (ℕ × ℕ)) (held : Option ℕ) → z.groups ≡ w.groups → w.passed ≤ z.passed
    → GroupsMatchState c w token states items held → GroupsMatchState c z token states items held
kept_quiet c w z token states items held same more k = record {
  free = λ g at. free_more c w.passed z.passed (z.groups g) more (subst (λ f. IsFree c w.passed (f g)) (sym same) (k.free g at));
  linked = λ g b at other. ap (λ f. f g) same ∙ k.linked g b at other;
  taken = λ g e. free_more c w.passed z.passed (z.groups g) more (subst (λ f. IsFree c w.passed (f g)) (sym same) (k.taken g e));
  rising = k.rising;
  retired = subst (λ f. AreRetired f token items) (sym same) k.retired;
  all = λ some g t e. elim (k.all some g t (ap (λ f. f g) (sym same) ∙ e)) [
    | inl le ↦ inl (omega (arith, le, more))
    | inr at ↦ inr at
  ];
}

pub keeps_stopped : (c : InitialState) (steps later : List WriterStep) (states : List GroupState) (items : List (ℕ × ℕ)) (passed : ℕ) (held : Option ℕ)
    → HasStopped c steps later → GroupsMatchSteps c steps states items passed held → GroupsMatchSteps c later states items passed held
keeps_stopped c steps later states items passed held stop k = record {
  kept = subst (λ t. GroupsMatchState c (state_after c later) t states items held) (sym stop.token)
      (kept_quiet c (state_after c steps) (state_after c later) (state_after c steps).token states items held stop.quiet.groups (subst (λ p. (state_after c steps).passed ≤ p) (sym stop.passed) (omega arith)) k.kept);
  remembers = λ some. k.remembers some ∙ sym stop.passed;
}

-- ---- the front of the queue

-- an item of a later token isn't the oldest
after_among : (t g u : ℕ) (items : List (ℕ × ℕ)) → AreAfter t items → IsAmong g u items → t < u
after_among t g u [] h at = absurd at
after_among t g u (item ∷ items) h (inl e) = subst (λ x. t < x) (sym e.1) h.0
after_among t g u (item ∷ items) h (inr at) = after_among t g u items h.1 at

-- the oldest item's check may begin
pub may_ask : (c : InitialState) (steps : List WriterStep) (states : List GroupState) (g t : ℕ) (rest tail : List (ℕ × ℕ)) (passed : ℕ) (held : Option ℕ)
    → GroupsMatchSteps c steps states ((g, t) ∷ rest ++ tail) passed held → MayReclaim c steps ((g, t) ∷ rest) → passed < t → MayLoadCounters c steps t
may_ask c steps states g t rest tail passed held k may more some counter =
    let w : TableState = state_after c steps in
    let known = k.remembers some in
    let oldest : IsOldest w t = record {
      group = g;
      retired = k.kept.retired.0;
      unpassed = subst (λ p. p < t) known more;
      least = λ other u e. elim (k.kept.all some other u e) [
        | inl le ↦ inl le
        | inr at ↦ inr (first other u at)
      ];
      before = λ up. (may.before up).0;
    } in
    ((refl, some, k.kept.retired.1, inl refl), subst (λ d. IsLoadDue w (progress_after c steps) t 0 d) (sym may.idle.next_step) (refl, oldest, may.updating))
  where
    first : (other u : ℕ) → IsAmong other u ((g, t) ∷ rest ++ tail) → t ≤ u
    first other u (inl e) = subst (λ x. t ≤ x) (sym e.1) (omega arith)
    first other u (inr at) = let lt = after_among t other u (rest ++ tail) k.kept.rising.0 at in omega (arith, lt)

-- after some steps that may have led to the memory, a check of the token may load the counters
abbrev pub MayLoad : {M : Type 0} → (M → InitialState → List WriterStep → Type 0) → M → ℕ → ℕ → Type 0
MayLoad did m passed token = (c : InitialState) × (steps : List WriterStep) × did m c steps × (passed < token → MayLoadCounters c steps token)

-- so it is of the oldest item's token
pub may_load : {M : Type 0} (did : M → InitialState → List WriterStep → Type 0) (m : M) (states : List GroupState) (passed token : ℕ)
    → ((group : ℕ) × (rest : List (ℕ × ℕ)) × IsReclaimable did m states passed ((group, token) ∷ rest)) ⊎ MayLoad did m passed token
    → MayLoad did m passed token
may_load did m states passed token (inl front) =
    let may = front.2.may in
    (may.initial, may.steps, may.led, may_ask may.initial may.steps states front.0 token front.1 may.behind passed may.held may.groups may.may)
may_load did m states passed token (inr may) = may

-- the front has passed its check, and is freed
pub keeps_freed : (c : InitialState) (steps later : List WriterStep) (states : List GroupState) (g t : ℕ) (items : List (ℕ × ℕ)) (passed passed' : ℕ) (held : Option ℕ)
    → GroupsMatchSteps c steps states ((g, t) ∷ items) passed held → HasPassed c steps t later → Remembers c later passed' → IsLimboAt states g
    → GroupsMatchSteps c later (slice_set states g Free) items passed' held
keeps_freed c steps later states g t items passed passed' held k pass known limbo =
    let z : TableState = state_after c later in
    let old = kept_quiet c (state_after c steps) z (state_after c steps).token states ((g, t) ∷ items) held pass.quiet.groups pass.more k.kept in
    let inside = slice_get_within states g Limbo limbo in
    record {
      kept = subst (λ u. GroupsMatchState c z u (slice_set states g Free) items held) (sym pass.token) (record {
        free = λ h at. elim (cases_eq h g) [
          | inl e ↦ subst (λ x. IsFree c z.passed (z.groups x)) (sym e) (subst (IsFree c z.passed) (sym old.retired.0) (let p = pass.passed in is_free p))
          | inr ne ↦ old.free h (sym (slice_get-set_other states g h Free ne) ∙ at)
        ];
        linked = λ h b at other. elim (cases_eq h g) [
          | inl e ↦ absurd (free_linked (slice_get (slice_set states g Free) g) b (slice_get-set_same states g Free inside) (ap (slice_get (slice_set states g Free)) (sym e) ∙ at))
          | inr ne ↦ old.linked h b (sym (slice_get-set_other states g h Free ne) ∙ at) other
        ];
        taken = old.taken;
        rising = old.rising.1;
        retired = old.retired.2;
        all = λ some h u e. elim (old.all some h u e) [
          | inl le ↦ inl le
          | inr (inl q) ↦ inl (subst (λ x. x ≤ z.passed) (sym q.1) (pass.passed some))
          | inr (inr at) ↦ inr at
        ];
      });
      remembers = known;
    }
  where
    is_free : (0 < c.workers → t ≤ (state_after c later).passed) → (t ≤ (state_after c later).passed) ⊎ (c.workers ≡ 0)
    is_free p = elim (cases_eq c.workers 0) [
      | inl none ↦ inr none
      | inr some ↦ inl (p (omega (arith, some)))
    ]

-- the next check of the reclaim may begin
pub reclaims_on : (c : InitialState) (steps later : List WriterStep) (g t : ℕ) (rest : List (ℕ × ℕ)) → MayReclaim c steps ((g, t) ∷ rest) → HasPassed c steps t later → MayReclaim c later rest
reclaims_on c steps later g t rest may pass = record {
  idle = pass.idle may.idle;
  updating = λ up. pass.like.reclaims ∙ may.updating (was up);
  before = λ up. subst (λ u. AreBelow u rest) (sym pass.token) (may.before (was up)).1;
}
  where
    was : IsUpdating (state_after c later) → IsUpdating (state_after c steps)
    was up = subst (λ q. q % 2 ≡ 1) pass.quiet.sequence up

-- a free group is taken for a block
pub keeps_taken : (c : InitialState) (steps : List WriterStep) (states : List GroupState) (items : List (ℕ × ℕ)) (passed g b : ℕ)
    → GroupsMatchSteps c steps states items passed None → IsFreeAt states g → GroupsMatchSteps c steps (slice_set states g (LinkedTo b)) items passed (Some g)
keeps_taken c steps states items passed g b k free =
    let here = slice_get-set_same states g (LinkedTo b) (slice_get_within states g Free free) in
    record {
      kept = record {
        free = λ h at. elim (cases_eq h g) [
          | inl e ↦ absurd (free_linked (slice_get (slice_set states g (LinkedTo b)) g) b (ap (slice_get (slice_set states g (LinkedTo b))) (sym e) ∙ at) here)
          | inr ne ↦ k.kept.free h (sym (slice_get-set_other states g h (LinkedTo b) ne) ∙ at)
        ];
        linked = λ h other at apart. elim (cases_eq h g) [
          | inl e ↦ absurd (apart (ap Some (sym e)))
          | inr ne ↦ k.kept.linked h other (sym (slice_get-set_other states g h (LinkedTo b) ne) ∙ at) (λ q. absurd cc)
        ];
        taken = λ h q. subst (λ x. IsFree c (state_after c steps).passed ((state_after c steps).groups x)) (same_Some g h q) (k.kept.free g free);
        rising = k.kept.rising;
        retired = k.kept.retired;
        all = k.kept.all;
      };
      remembers = k.remembers;
    }

pub linked_not_retired : (b t : ℕ) → Linked b ≡ Retired t → ⊥
linked_not_retired b t e = cc

-- ---- the groups that wait

-- they are those of the queue
pub is_limbo : (c : InitialState) (w : TableState) (states : List GroupState) (items : List (ℕ × ℕ)) → GroupsMatchState c w w.token states items None
    → IsLimbo c w (tokens_of items)
is_limbo c w states items kept = record {
  items = items;
  tokens = refl;
  rising = kept.rising;
  retired = kept.retired;
  linked = λ g b is. absent_linked w.groups w.token g b items is kept.retired;
  all = kept.all;
}
  where
    -- a group that is linked is none of those that are retired
    absent_linked : (status : ℕ → Status) (token g b : ℕ) (items : List (ℕ × ℕ)) → status g ≡ Linked b → AreRetired status token items → IsAbsent g items
    absent_linked status token g b [] is h = tt
    absent_linked status token g b (item ∷ items) is h = (λ e. linked_not_retired b item.1 (sym is ∙ ap status (sym e) ∙ h.0), absent_linked status token g b items is h.2)

pub on_passed : (result : Result (Unit {0}) Busy) (P : Type 0) → (result ≡ Ok tt → P) → OnOk result P
on_passed (Ok done) P h = h refl
on_passed (Err busy) P h = tt

pub still_same : (c : InitialState) (steps : List WriterStep) (items : List (ℕ × ℕ)) → MayReclaim c steps items → OnlyChecks c steps steps
still_same c steps items may = record { quiet = quiet_same (state_after c steps); token = refl; taken = refl; idle = may.idle }

module _ {M : Type 0} (did : M → InitialState → List WriterStep → Type 0) (does : M → WriterStep → M → Type 0) where
  -- so many of these items passed their checks; to free a group is no step of the writer
  abbrev pub HavePassed : InitialState → ℕ → List (ℕ × ℕ) → WithSteps M → List (ℕ × ℕ) → WithSteps M → Type 0
  HavePassed c n items x left z = FreesFront (Checks does c) (λ y token w. w ≡ y) n (tokens_of items) x (tokens_of left) z

  module _ (first : M) (states0 : List GroupState) (items0 : List (ℕ × ℕ)) (passed0 : ℕ) where
    -- the first n items were freed
    abbrev pub HasFreed : ℕ → M → List GroupState → List (ℕ × ℕ) → ℕ → Type 0
    HasFreed n m states items passed = (c : InitialState) (steps : List WriterStep) (tail : List (ℕ × ℕ)) (held : Option ℕ) → did first c steps
        → GroupsMatchSteps c steps states0 (items0 ++ tail) passed0 held → MayReclaim c steps items0
        → (later : List WriterStep) × did m c later × OnlyChecks c steps later × GroupsMatchSteps c later states (items ++ tail) passed held
        × MayReclaim c later items × HavePassed c n items0 (first, steps) items (m, later)

    pub none_freed : HasFreed 0 first states0 items0 passed0
    none_freed c steps tail held d k may = (steps, d, still_same c steps items0 may, k, may, (refl, refl))

    module _ (n : ℕ) (m : M) (states : List GroupState) (items : List (ℕ × ℕ)) (passed : ℕ) (freed : HasFreed n m states items passed)
        (g t : ℕ) (rest : List (ℕ × ℕ)) (front : items ≡ (g, t) ∷ rest) where
      pub may_check : (c : InitialState) (steps : List WriterStep) (tail : List (ℕ × ℕ)) (held : Option ℕ) (d : did first c steps)
          (k : GroupsMatchSteps c steps states0 (items0 ++ tail) passed0 held) (may : MayReclaim c steps items0) → passed < t → MayLoadCounters c (freed c steps tail held d k may).0 t
      may_check c steps tail held d k may =
          let now = freed c steps tail held d k may in
          may_ask c now.0 states g t rest tail passed held (subst (λ xs. GroupsMatchSteps c now.0 states (xs ++ tail) passed held) front now.3) (subst (MayReclaim c now.0) front now.4)

      module _ (z : M) (passed' : ℕ) (result : Result (Unit {0}) Busy) (answers : ChecksBy did does m passed t result z passed') where
        pub one_freed : result ≡ Ok tt → IsLimboAt states g → HasFreed (n + 1) z (slice_set states g Free) rest passed'
        one_freed ok limbo c steps tail held d k may =
            let now = freed c steps tail held d k may in
            let later = answers c now.0 now.1 now.3.remembers (may_check c steps tail held d k may) in
            let checks = subst (λ r. Checks does c (m, now.0) t r (z, later.0)) ok later.2 in
            let pass = check_passes does c (m, now.0) t (z, later.0) checks in
            let may_now = reclaims_on c now.0 later.0 g t rest (subst (MayReclaim c now.0) front now.4) pass in (
              later.0,
              later.1,
              record {
                quiet = quiet_on (state_after c steps) (state_after c now.0) (state_after c later.0) now.2.quiet pass.quiet;
                token = pass.token ∙ now.2.token;
                taken = pass.like.taken ∙ now.2.taken;
                idle = may_now.idle;
              },
              keeps_freed c now.0 later.0 states g t (rest ++ tail) passed passed' held (subst (λ xs. GroupsMatchSteps c now.0 states (xs ++ tail) passed held) front now.3) pass later.3 limbo,
              may_now,
              FreesFront-more (Checks does c) (λ y token w. w ≡ y) n (tokens_of items0) (tokens_of items) (tokens_of rest) (tokens_of rest) t
                  (first, steps) (m, now.0) (z, later.0) (z, later.0) now.5 (ap tokens_of front) refl checks refl,
            )

        pub one_held : (busy : Busy) → result ≡ Err busy → (max : ℕ) → n < max → (c : InitialState) (steps : List WriterStep) (tail : List (ℕ × ℕ)) (held : Option ℕ)
            → did first c steps → GroupsMatchSteps c steps states0 (items0 ++ tail) passed0 held → MayReclaim c steps items0
            → (later : List WriterStep) × did z c later × OnlyChecks c steps later × GroupsMatchSteps c later states (items ++ tail) passed' held
            × Reclaims (by_writer does c) (first, steps) max (tokens_of items0) n (Some busy) (tokens_of items) (z, later)
        one_held busy err max more c steps tail held d k may =
            let now = freed c steps tail held d k may in
            let later = answers c now.0 now.1 now.3.remembers (may_check c steps tail held d k may) in
            let checks = subst (λ r. Checks does c (m, now.0) t r (z, later.0)) err later.2 in
            let stop = check_stops does c (m, now.0) t busy (z, later.0) checks in
            let kept = keeps_stopped c now.0 later.0 states (items ++ tail) passed held stop now.3 in (
              later.0,
              later.1,
              record {
                quiet = quiet_on (state_after c steps) (state_after c now.0) (state_after c later.0) now.2.quiet stop.quiet;
                token = stop.token ∙ now.2.token;
                taken = stop.taken now.4.idle ∙ now.2.taken;
                idle = stop.idle now.4.idle;
              },
              record { kept = kept.kept; remembers = later.3 },
              subst (λ xs. Reclaims (by_writer does c) (first, steps) max (tokens_of items0) n (Some busy) (tokens_of xs) (z, later.0)) (sym front) record {
                at_most = omega (arith, more);
                last = (m, now.0);
                front = subst (λ xs. HavePassed c n items0 (first, steps) xs (m, now.0)) front now.5;
                end = (more, checks);
              },
            )

    pub all_freed : (n max : ℕ) (m : M) (states : List GroupState) (items : List (ℕ × ℕ)) (passed : ℕ) → HasFreed n m states items passed → n ≤ max
        → (n ≡ max) ⊎ (items ≡ []) → (c : InitialState) (steps : List WriterStep) (tail : List (ℕ × ℕ)) (held : Option ℕ) → did first c steps
        → GroupsMatchSteps c steps states0 (items0 ++ tail) passed0 held → MayReclaim c steps items0
        → (later : List WriterStep) × did m c later × OnlyChecks c steps later × GroupsMatchSteps c later states (items ++ tail) passed held
        × Reclaims (by_writer does c) (first, steps) max (tokens_of items0) n None (tokens_of items) (m, later)
    all_freed n max m states items passed freed most end c steps tail held d k may =
        let now = freed c steps tail held d k may in
        let ended : (n ≡ max) ⊎ (tokens_of items ≡ []) = elim end [ inl all ↦ inl all | inr none ↦ inr (ap tokens_of none) ] in
        (now.0, now.1, now.2, now.3, record { at_most = most; last = (m, now.0); front = now.5; end = (ended, refl) })

  -- ---- an item whose check has passed may be freed, and then those behind it may be checked

  pub passes_item : (m : M) (states : List GroupState) (passed g t : ℕ) (rest : List (ℕ × ℕ)) (z : M) (passed' : ℕ) (result : Result (Unit {0}) Busy)
      → ChecksBy did does m passed t result z passed' → IsReclaimable did m states passed ((g, t) ∷ rest) → result ≡ Ok tt
      → HasPassedFront did z states passed' (g, t) rest
  passes_item m states passed g t rest z passed' result answers ready ok =
      let waits = ready.waiting in
      let may = ready.may in
      let items = (g, t) ∷ rest in
      let one = one_freed m states items passed 0 m states items passed (none_freed m states items passed) g t rest refl z passed' result answers ok waits.0 in
      let now = one may.initial may.steps may.behind may.held may.led may.groups may.may in
      record {
        limbo = waits.0;
        behind = record {
          waiting = waiting_set states g Free rest waits.1 waits.2;
          may = record { initial = may.initial; steps = now.0; behind = may.behind; held = may.held; led = now.1; groups = now.3; may = now.4 };
        };
      }

  -- ---- a reclaim of the queue, whose state is a memory, groups, and the greatest token that has passed

  module _ {S : Type 0} (memory : S → M) (groups : S → List GroupState) (passed : S → ℕ) where
    abbrev pub ChecksItem : S → ℕ × ℕ → Result (Unit {0}) Busy → S → Type 0
    ChecksItem s item r z = ChecksBy did does (memory s) (passed s) item.1 r (memory z) (passed z) × (groups z ≡ groups s)
        × OnOk r (item.1 ≤ passed z) × OnErr r (passed z ≡ passed s)

    abbrev pub FreesItem : S → ℕ × ℕ → S → Type 0
    FreesItem s item z = (memory z ≡ memory s) × (passed z ≡ passed s) × (groups z ≡ slice_set (groups s) item.0 Free)

    pub front_states : (n : ℕ) (items left : List (ℕ × ℕ)) (s z : S) → FreesFront ChecksItem FreesItem n items s left z → groups z ≡ freed_states n items (groups s)
    front_states zero items left s z f = ap groups f.1
    front_states (suc n) [] left s z f = absurd f
    front_states (suc n) (item ∷ items) left s z f =
        front_states n items left f.1 z f.4 ∙ ap (freed_states n items) (f.3.2 ∙ ap (λ ys. slice_set ys item.0 Free) f.2.1)

    pub front_waits : (n : ℕ) (items left : List (ℕ × ℕ)) (s z : S) → FreesFront ChecksItem FreesItem n items s left z → AreWaiting (groups s) items → AreWaiting (groups z) left
    front_waits zero items left s z f waits = subst (AreWaiting (groups z)) (sym f.0) (subst (λ x. AreWaiting (groups x) items) (sym f.1) waits)
    front_waits (suc n) [] left s z f waits = absurd f
    front_waits (suc n) (item ∷ items) left s z f waits =
        let same = f.3.2 ∙ ap (λ ys. slice_set ys item.0 Free) f.2.1 in
        front_waits n items left f.1 z f.4 (subst (λ ys. AreWaiting ys items) (sym same) (waiting_set (groups s) item.0 Free items waits.1 waits.2))

    module _ (first : M) (states0 : List GroupState) (items0 : List (ℕ × ℕ)) (passed0 : ℕ) where
      front_freed : (n k : ℕ) (items left : List (ℕ × ℕ)) (s z : S) → FreesFront ChecksItem FreesItem n items s left z → AreWaiting (groups s) items
          → HasFreed first states0 items0 passed0 k (memory s) (groups s) items (passed s) → HasFreed first states0 items0 passed0 (k + n) (memory z) (groups z) left (passed z)
      front_freed zero k items left s z f waits h =
          subst (λ m. HasFreed first states0 items0 passed0 m (memory z) (groups z) left (passed z)) (omega arith)
          (subst (λ xs. HasFreed first states0 items0 passed0 k (memory z) (groups z) xs (passed z)) (sym f.0)
          (subst (λ x. HasFreed first states0 items0 passed0 k (memory x) (groups x) items (passed x)) (sym f.1) h))
      front_freed (suc n) k [] left s z f waits h = absurd f
      front_freed (suc n) k (item ∷ items) left s z f waits h =
          let same = f.3.2 ∙ ap (λ ys. slice_set ys item.0 Free) f.2.1 in
          let one = one_freed first states0 items0 passed0 k (memory s) (groups s) (item ∷ items) (passed s) h item.0 item.1 items refl (memory f.0) (passed f.0) (Ok tt) f.2.0 refl waits.0 in
          let now = subst (λ p. HasFreed first states0 items0 passed0 (k + 1) (memory f.1) (groups f.1) items p) (sym f.3.1)
          (subst (λ ys. HasFreed first states0 items0 passed0 (k + 1) (memory f.1) ys items (passed f.0)) (sym same)
          (subst (λ m. HasFreed first states0 items0 passed0 (k + 1) m (slice_set (groups s) item.0 Free) items (passed f.0)) (sym f.3.0) one)) in
          subst (λ m. HasFreed first states0 items0 passed0 m (memory z) (groups z) left (passed z)) (omega arith)
          (front_freed n (k + 1) items left f.1 z f.4 (subst (λ ys. AreWaiting ys items) (sym same) (waiting_set (groups s) item.0 Free items waits.1 waits.2)) now)

    -- what came of a whole reclaim
    module _ (max n : ℕ) (items : List (ℕ × ℕ)) (s : S) (waits : AreWaiting (groups s) items) where
      abbrev pub FreedFrom : Option Busy → List (ℕ × ℕ) → M → S → Type 0
      FreedFrom stopped left m z = (c : InitialState) (steps : List WriterStep) (tail : List (ℕ × ℕ)) (held : Option ℕ) → did (memory s) c steps
          → GroupsMatchSteps c steps (groups s) (items ++ tail) (passed s) held → MayReclaim c steps items
          → (later : List WriterStep) × did m c later × OnlyChecks c steps later × GroupsMatchSteps c later (groups z) (left ++ tail) (passed z) held
          × Reclaims (by_writer does c) (memory s, steps) max (tokens_of items) n stopped (tokens_of left) (m, later)

      freed : (left : List (ℕ × ℕ)) (last : S) → FreesFront ChecksItem FreesItem n items s left last
          → HasFreed (memory s) (groups s) items (passed s) n (memory last) (groups last) left (passed last)
      freed left last f =
          subst (λ m. HasFreed (memory s) (groups s) items (passed s) m (memory last) (groups last) left (passed last)) (omega arith)
          (front_freed (memory s) (groups s) items (passed s) n 0 items left s last f waits (none_freed (memory s) (groups s) items (passed s)))

      steps_of : (stopped : Option Busy) (left : List (ℕ × ℕ)) (z : S) → queue.Reclaims ChecksItem FreesItem max items s n stopped left z → FreedFrom stopped left (memory z) z
      steps_of None left z r =
          subst (λ x. FreedFrom None left (memory x) x) (sym r.end.1)
          (all_freed (memory s) (groups s) items (passed s) n max (memory r.last) (groups r.last) left (passed r.last) (freed left r.last r.front) r.at_most r.end.0)
      steps_of (Some busy) [] z r = absurd r.end
      steps_of (Some busy) (item ∷ left) z r =
          let held = one_held (memory s) (groups s) items (passed s) n (memory r.last) (groups r.last) (item ∷ left) (passed r.last) (freed (item ∷ left) r.last r.front)
          item.0 item.1 left refl (memory z) (passed z) (Err busy) r.end.1.0 busy refl max r.end.0 in
          λ c steps tail held0 d k may.
          let now = held c steps tail held0 d k may in
          (now.0, now.1, now.2, subst (λ ys. GroupsMatchSteps c now.0 ys (item ∷ left ++ tail) (passed z) held0) (sym r.end.1.1) now.3, now.4)

      pub reclaimed_steps : (stopped : Option Busy) (left : List (ℕ × ℕ)) (m : M) (z : S) → queue.Reclaims ChecksItem FreesItem max items s n stopped left z → m ≡ memory z → FreedFrom stopped left m z
      reclaimed_steps stopped left m z r same = subst (λ y. FreedFrom stopped left y z) (sym same) (steps_of stopped left z r)

      pub reclaimed_states : (stopped : Option Busy) (left : List (ℕ × ℕ)) (z : S) → queue.Reclaims ChecksItem FreesItem max items s n stopped left z → groups z ≡ freed_states n items (groups s)
      reclaimed_states None left z r = ap groups r.end.1 ∙ front_states n items left s r.last r.front
      reclaimed_states (Some busy) [] z r = absurd r.end
      reclaimed_states (Some busy) (item ∷ left) z r = r.end.1.1 ∙ front_states n items (item ∷ left) s r.last r.front

      pub reclaimed_waits : (stopped : Option Busy) (left : List (ℕ × ℕ)) (z : S) → queue.Reclaims ChecksItem FreesItem max items s n stopped left z → AreWaiting (groups z) left
      reclaimed_waits None left z r = subst (λ x. AreWaiting (groups x) left) (sym r.end.1) (front_waits n items left s r.last r.front waits)
      reclaimed_waits (Some busy) [] z r = absurd r.end
      reclaimed_waits (Some busy) (item ∷ left) z r = subst (λ ys. AreWaiting ys (item ∷ left)) (sym r.end.1.1) (front_waits n items (item ∷ left) s r.last r.front waits)

-- an item whose token isn't above the greatest that has passed may be freed with no load
pub passed_already : {M : Type 0} (did : M → InitialState → List WriterStep → Type 0) (m : M) (states : List GroupState) (passed token group : ℕ) (rest : List (ℕ × ℕ)) → token ≤ passed
    → IsReclaimable did m states passed ((group, token) ∷ rest)
    → HasPassedFront did m states passed (group, token) rest
passed_already {M} did m states passed token group rest le ready =
    let does : M → WriterStep → M → Type 0 = λ x s z. Unit {0} in
    passes_item did does m states passed group token rest m passed (Ok tt) (passes_at_once did does m passed token le) ready refl
