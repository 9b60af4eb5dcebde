-- The writer's stores keep what holds.
use Rattle.std.proofs.Common.{◌≡◌, ℕ, suc, ◌+◌, ◌/◌, ◌<◌, ◌≤◌, ◌≢◌, ◌⊎◌, inl, inr, Bool, true, false, cond, ◌&&◌, eqb, leb, max, sym, ap, subst, ◌∙◌, arith, ◌%◌, ◌^◌, length, slice_index, refl, get_or-set_other}
use Rattle.std.proofs.lemmas.Bool.Decides.{leb_tells}
use Rattle.lpm_trace.specs.declared.step.WriterStep.TheVariants.{LoadCounter, StoreFirst, StoreSecond}
use Rattle.lpm_trace.specs.States.{InitialState, TableState, addresses, Status, Unused, Linked, Retired, answer, updates_done_in, updates_begun_in, state_by_step, lets_pass, MayWrite, first_entry, with_linked, with_retired, with_stamp, MayLink, MayFill, IsFree}
use Rattle.lpm_trace.specs.Trace.{Worker, Phase, ReportingQuiescent}
use Rattle.lpm_rules.specs.RuleMap.{RuleMap}
use Rattle.lpm_trace.proofs.Good.{Told, half_by, HeldAs, Good, worker_stays, running_counter, LoadedAs, IsStaleAs, second_place, HalfOk, WorkerOk, IsRunning}
use Rattle.std.proofs.lemmas.Nat.{div-mul-add, pow_pos}
use Rattle.std.proofs.Math.Nat.{mod-lt}
use Rattle.lpm_cells.specs.declared.entry.Entry.{Entry}
use Rattle.lpm_cells.specs.declared.entry.Entry.TheVariants.{Group}
use Rattle.lpm_cells.specs.Words.{entry_in, hop_in, with_first, last_entry}
use Rattle.lpm_trace.proofs.Versions.{by_number, with_at_case, with_at-same, with_at-other, set_case}

-- The sequence, the token and the checks keep what holds.

-- the state with the words and the groups as they were
abbrev pub quiet : TableState → ℕ → (ℕ → RuleMap) → (ℕ → Bool) → ℕ → TableState
quiet w sequence history answer_changed token = record w { clock = suc w.clock; sequence = sequence; history = history; answer_changed = answer_changed; token = token }

pub keeps_quiet : (c : InitialState) (A : Told) (Hi : ℕ → ℕ → Type 0) (w : TableState) (workers : ℕ → Worker) → Good c A Hi w workers
    → (sequence : ℕ) (history : ℕ → RuleMap) (answer_changed : ℕ → Bool) (token : ℕ) → w.token ≤ token → w.sequence ≤ sequence
    → ((a lo : ℕ) → a < addresses c → lo ≤ sequence / 2 → A (suc w.clock) a lo (answer c w.words a)) → ((t : ℕ) → t ≤ suc w.clock → Hi t ((sequence + 1) / 2))
    → Good c A Hi (quiet w sequence history answer_changed token) workers
keeps_quiet c A Hi w workers good sequence history answer_changed token more on now below = record {
  token = omega (arith, more, good.token);
  passed = omega (arith, more, good.passed);
  scan = omega (arith, more, good.scan);
  unlinked = λ x. omega (arith, good.unlinked x);
  linked = good.linked;
  workers_ok = λ k. let ok = good.workers_ok k in
      worker_stays c A Hi w (quiet w sequence history answer_changed token) k (workers k) (omega arith) more (omega (arith, on)) ok.grace
      (λ a g f half. half_by c A A w (quiet w sequence history answer_changed token) (workers k).since (workers k).lo (workers k).phase a g f (omega arith) (omega (arith, on)) half
      (elim half.value [ inl h ↦ inl h | inr h ↦ inr (h.0, (h.1.0, h.1.1, omega (arith, h.1.2), h.1.3)) ])) ok;
  now = now;
  below = below;
}

lets_pass_tells : (token value : ℕ) → ((lets_pass token value ≡ true) × ((value ≡ 0) ⊎ (token ≤ value))) ⊎ (lets_pass token value ≡ false)
lets_pass_tells token value = by_number (λ b. ((cond b true (leb token value) ≡ true) × ((value ≡ 0) ⊎ (token ≤ value))) ⊎ (cond b true (leb token value) ≡ false)) value 0
    (λ h. inl (refl, inl h.1))
    (λ h. elim (leb_tells token value) [ inl g ↦ inl (g.0, inr g.1) | inr g ↦ inr g.0 ])

-- a check that passes one more worker passes none that holds the group back
held_passed : (c : InitialState) (w : TableState) (k k0 token value T counter : ℕ) → 0 < counter → k < c.workers → counter < T
    → ((k ≡ k0) → value ≡ counter) → (value ≡ 0) ⊎ (token ≤ value)
    → (k0 ≡ 0) ⊎ ((w.scan.next ≡ k0) × (w.scan.token ≡ token)) → (T ≤ w.scan.token → w.scan.next ≤ k) → T ≤ token → suc k0 ≤ k
held_passed c w k k0 token value T counter some inside below same pass order before le =
    let reached : k0 ≤ k = elim order [
      | inl z ↦ omega (arith, z)
      | inr h ↦ let now : w.scan.next ≤ k = before (omega (arith, h.1, le)) in omega (arith, h.0, now)
    ] in
    let other : k ≢ k0 = λ e. let is : value ≡ counter = same e in elim pass [
      | inl z ↦ omega (arith, z, is, some)
      | inr h ↦ omega (arith, h, is, below, le)
    ] in
    omega (arith, reached, other)

held_counted : (c : InitialState) (w : TableState) (k k0 token value counter : ℕ) (p : Phase) → 0 < counter → k < c.workers → ((k ≡ k0) → value ≡ counter)
    → (k0 ≡ 0) ⊎ ((w.scan.next ≡ k0) × (w.scan.token ≡ token)) → (s : Status) → HeldAs w k counter p s → HeldAs (state_by_step c w (LoadCounter token k0 value)) k counter p s
held_counted c w k k0 token value counter p some inside same order Unused h = h
held_counted c w k k0 token value counter p some inside same order (Linked block) h = h
held_counted c w k k0 token value counter p some inside same order (Retired T) h = elim (lets_pass_tells token value) [
  | inl g ↦
      let next : T ≤ token → suc k0 ≤ k = held_passed c w k k0 token value T counter some inside h.0 same g.1 order h.3 in (
        h.0,
        h.1,
        subst (λ b. cond (b && eqb (suc k0) c.workers) (max w.passed token) w.passed < T) (sym g.0)
            (by_number (λ b. cond b (max w.passed token) w.passed < T) (suc k0) c.workers
            (λ last. elim (leb_tells T token) [
              | inl le ↦ absurd (let n : suc k0 ≤ k = next le.1 in omega (arith, n, last.1, inside))
              | inr gt ↦ omega (arith, gt.1, h.2)
            ])
            (λ _. h.2)),
        subst (λ b. T ≤ token → cond b (suc k0) 0 ≤ k) (sym g.0) next,
      )
  | inr g ↦ (
    h.0,
    h.1,
    subst (λ b. cond (b && eqb (suc k0) c.workers) (max w.passed token) w.passed < T) (sym g) h.2,
    subst (λ b. T ≤ token → cond b (suc k0) 0 ≤ k) (sym g) (λ _. omega arith),
  )
]

passed_counted : (b : Bool) (x y n : ℕ) → x ≤ n → y ≤ n → cond b (max x y) x ≤ n
passed_counted true x y n h g = omega (arith, h, g)
passed_counted false x y n h g = h

pub keeps_counter : (c : InitialState) (A : Told) (Hi : ℕ → ℕ → Type 0) (w : TableState) (workers : ℕ → Worker) → Good c A Hi w workers
    → (token k0 value : ℕ) → MayWrite c (λ k. (workers k).counter) w (LoadCounter token k0 value)
    → ((a lo : ℕ) → a < addresses c → lo ≤ updates_done_in w → A (suc w.clock) a lo (answer c w.words a)) → ((t : ℕ) → t ≤ suc w.clock → Hi t (updates_begun_in w))
    → Good c A Hi (state_by_step c w (LoadCounter token k0 value)) workers
keeps_counter c A Hi w workers good token k0 value may now below = record {
  token = good.token;
  passed = passed_counted (lets_pass token value && eqb (suc k0) c.workers) w.passed token w.token good.passed may.2;
  scan = may.2;
  unlinked = λ x. omega (arith, good.unlinked x);
  linked = good.linked;
  workers_ok = λ k. let ok = good.workers_ok k in
      worker_stays c A Hi w (state_by_step c w (LoadCounter token k0 value)) k (workers k) (omega arith) (omega arith) (omega arith)
      (λ run g lt. held_counted c w k k0 token value (workers k).counter (workers k).phase (running_counter w.token (workers k).counter (workers k).phase run ok.loaded) (ok.inside run)
      (λ e. may.0 ∙ ap (λ x. (workers x).counter) (sym e)) may.3 (w.groups g) (ok.grace run g lt))
      (λ a g f half. half_by c A A w (state_by_step c w (LoadCounter token k0 value)) (workers k).since (workers k).lo (workers k).phase a g f (omega arith) (omega arith) half
      (elim half.value [ inl h ↦ inl h | inr h ↦ inr (h.0, (h.1.0, h.1.1, omega (arith, h.1.2), h.1.3)) ])) ok;
  now = now;
  below = below;
}

-- a group that is held is not free
pub held_not_free : (c : InitialState) (w : TableState) (k counter : ℕ) (p : Phase) → k < c.workers → (s : Status) → HeldAs w k counter p s → IsFree c w.passed s → ⊥
held_not_free c w k counter p inside (Retired token) held (inl h) = omega (arith, held.2, h)
held_not_free c w k counter p inside (Retired token) held (inr h) = omega (arith, inside, h)
held_not_free c w k counter p inside s held free = held

pub held_not_filled : (c : InitialState) (w : TableState) (k counter : ℕ) (p : Phase) → k < c.workers → (s : Status) → HeldAs w k counter p s → MayFill c w.passed s → ⊥
held_not_filled c w k counter p inside (Retired token) held (inl h) = omega (arith, held.2, h)
held_not_filled c w k counter p inside (Retired token) held (inr h) = omega (arith, inside, h)
held_not_filled c w k counter p inside s held free = held

free_not_linked : (c : InitialState) (passed : ℕ) (s : Status) (i : ℕ) → s ≡ Linked i → IsFree c passed s → ⊥
free_not_linked c passed (Linked block) i e free = free
free_not_linked c passed s i e free = cc

stamped_later : (old : Entry) (now n : ℕ) (unlinked : ℕ → ℕ) (g : ℕ) → n < now → n < unlinked g → n < with_stamp old now unlinked g
stamped_later (Group group) now n unlinked g lt h = with_at_case (λ x. n < x) unlinked group now g (λ _. lt) (λ _. h)
stamped_later old now n unlinked g lt h = h

pub stamped_le : (old : Entry) (now : ℕ) (unlinked : ℕ → ℕ) → ((g : ℕ) → unlinked g ≤ now) → (g : ℕ) → with_stamp old now unlinked g ≤ now
stamped_le (Group group) now unlinked h g = with_at_case (λ x. x ≤ now) unlinked group now g (λ _. omega arith) (λ _. h g)
stamped_le old now unlinked h g = h g

pub stamped_ge : (old : Entry) (now : ℕ) (unlinked : ℕ → ℕ) (g : ℕ) → unlinked g ≤ now → unlinked g ≤ with_stamp old now unlinked g
stamped_ge (Group group) now unlinked g h = with_at_case (λ x. unlinked g ≤ x) unlinked group now g (λ _. h) (λ _. omega arith)
stamped_ge old now unlinked g h = omega arith

-- what a worker may yet store was there, so it is below the next token
stale_next : (token counter : ℕ) (p : Phase) → LoadedAs token counter p → IsStaleAs (suc token) p
stale_next token counter (ReportingQuiescent loaded) h = omega (arith, h.2)
stale_next token counter p h = tt

-- the place of an address in a group is one of that group
place_in_group : (c : InitialState) (a g : ℕ) → second_place c a g / 2 ^ c.second ≡ g
place_in_group c a g = div-mul-add g (2 ^ c.second) (a % 2 ^ c.second) (mod-lt a (pow_pos c.second))

module _ (c : InitialState) (A : Told) (Hi : ℕ → ℕ → Type 0) (w : TableState) (workers : ℕ → Worker) (good : Good c A Hi w workers) where
  module _ (k : ℕ) (r : Worker) (ok : WorkerOk c A Hi w k r) where
    -- an unlinking: the group is held by every worker whose reader interval runs
    held_retired : IsRunning r.phase → (old : Entry) (g : ℕ) → r.since < with_stamp old (suc w.clock) w.unlinked g → HeldAs w k r.counter r.phase (with_retired old (suc w.token) w.groups g)
    held_retired run (Group group) g lt =
        with_at_case (HeldAs w k r.counter r.phase) w.groups group (Retired (suc w.token)) g
        (λ e. (omega (arith, ok.counter), stale_next w.token r.counter r.phase ok.loaded, omega (arith, good.passed), λ h. absurd (omega (arith, h, good.scan))))
        (λ ne. ok.grace run g (subst (λ n. r.since < n) (with_at-other w.unlinked group (suc w.clock) g ne) lt))
    held_retired run old g lt = ok.grace run g lt

    held_taken : IsRunning r.phase → (i group : ℕ) → IsFree c w.passed (w.groups group) → (old : Entry) → first_entry w.words i ≡ old
        → r.since < with_stamp old (suc w.clock) w.unlinked group → ⊥
    held_taken run i group free (Group g) is lt = held_not_free c w k r.counter r.phase (ok.inside run) (w.groups group)
        (ok.grace run group (subst (λ n. r.since < n) (with_at-other w.unlinked g (suc w.clock) group
        (λ same. free_not_linked c w.passed (w.groups group) i (good.linked i group (is ∙ ap Group (sym same))) free)) lt)) free
    held_taken run i group free old is lt = held_not_free c w k r.counter r.phase (ok.inside run) (w.groups group) (ok.grace run group lt) free

    -- the store of a first word: what is held stays held
    held_linked : IsRunning r.phase → (i : ℕ) (e : Entry) → MayLink c w e
        → (g : ℕ) → r.since < with_stamp (first_entry w.words i) (suc w.clock) w.unlinked g → HeldAs w k r.counter r.phase (with_linked e i (with_retired (first_entry w.words i) (suc w.token) w.groups) g)
    held_linked run i (Group group) may g lt =
        with_at_case (HeldAs w k r.counter r.phase) (with_retired (first_entry w.words i) (suc w.token) w.groups) group (Linked i) g
        (λ e. held_taken run i group may (first_entry w.words i) refl (subst (λ x. r.since < with_stamp (first_entry w.words i) (suc w.clock) w.unlinked x) e lt))
        (λ ne. held_retired run (first_entry w.words i) g lt)
    held_linked run i e may g lt = held_retired run (first_entry w.words i) g lt

    half_first : (i x : ℕ) → i < length w.words.firsts → (a g f : ℕ)
        → HalfOk c A w r.since r.lo r.phase a g f → HalfOk c A (state_by_step c w (StoreFirst i x)) r.since r.lo r.phase a g f
    half_first i x inside a g f half =
        let came : f ≤ w.clock = half.came in
        half_by c A A w (state_by_step c w (StoreFirst i x)) r.since r.lo r.phase a g f (omega arith) (omega arith) half (elim half.value [
          | inl h ↦ set_case (λ y. (entry_in y ≡ Group g) ⊎ ((f < with_stamp (first_entry w.words i) (suc w.clock) w.unlinked g)
              × ((t : ℕ) × (f ≤ t) × (t ≤ suc w.clock) × A t a r.lo (hop_in (entry_in (slice_index w.words.seconds (second_place c a g)))))))
              w.words.firsts i x (a / 2 ^ c.second) inside
              (λ same. inr (
                subst (λ old. f < with_stamp old (suc w.clock) w.unlinked g) (sym h ∙ ap (first_entry w.words) same) (subst (λ n. f < n) (sym (with_at-same w.unlinked g (suc w.clock))) (omega (arith, came))),
                (w.clock, came, omega arith, subst (λ y. A w.clock a r.lo (hop_in (last_entry c.second w.words.seconds (a % 2 ^ c.second) y))) h (good.now a r.lo half.inside half.low)),
              ))
              (λ ne. inl h)
          | inr h ↦ inr (stamped_later (first_entry w.words i) (suc w.clock) f w.unlinked g (omega (arith, came)) h.0, (h.1.0, h.1.1, omega (arith, h.1.2), h.1.3))
        ])

    half_second : (j x : ℕ) → MayFill c w.passed (w.groups (j / 2 ^ c.second)) → (a g f : ℕ)
        → HalfOk c A w r.since r.lo r.phase a g f → HalfOk c A (state_by_step c w (StoreSecond j x)) r.since r.lo r.phase a g f
    half_second j x may a g f half = half_by c A A w (state_by_step c w (StoreSecond j x)) r.since r.lo r.phase a g f (omega arith) (omega arith) half (elim half.value [
      | inl h ↦ inl h
      | inr h ↦
          let other : second_place c a g ≢ j = λ same. held_not_filled c w k r.counter r.phase (ok.inside half.running) (w.groups g)
          (ok.grace half.running g (omega (arith, half.from, h.0)))
          (subst (λ n. MayFill c w.passed (w.groups n)) (ap (λ n. n / 2 ^ c.second) (sym same) ∙ place_in_group c a g) may) in
          inr (h.0, (h.1.0, h.1.1, omega (arith, h.1.2), subst (λ y. A h.1.0 a r.lo (hop_in (entry_in y))) (sym (get_or-set_other w.words.seconds j (second_place c a g) x 0 other)) h.1.3))
    ])

  linked_first : (i x : ℕ) → i < length w.words.firsts → MayLink c w (entry_in x) → (j g : ℕ) → first_entry (with_first w.words i x) j ≡ Group g
      → with_linked (entry_in x) i (with_retired (first_entry w.words i) (suc w.token) w.groups) g ≡ Linked j
  linked_first i x inside may j g = set_case (λ y. entry_in y ≡ Group g → with_linked (entry_in x) i (with_retired (first_entry w.words i) (suc w.token) w.groups) g ≡ Linked j) w.words.firsts i x j inside
      (λ same is. subst (λ e. with_linked e i (with_retired (first_entry w.words i) (suc w.token) w.groups) g ≡ Linked j) (sym is) (with_at-same (with_retired (first_entry w.words i) (suc w.token) w.groups) g (Linked i) ∙ ap Linked (sym same)))
      (λ ne is.
      let was : w.groups g ≡ Linked j = good.linked j g is in
      let kept : (old : Entry) → first_entry w.words i ≡ old → with_retired old (suc w.token) w.groups g ≡ Linked j = λ old. elim old as (λ o. first_entry w.words i ≡ o → with_retired o (suc w.token) w.groups g ≡ Linked j) [
        | Group g0 ↦ λ here. with_at_case (λ s. s ≡ Linked j) w.groups g0 (Retired (suc w.token)) g
            (λ e0. absurd (ne (let again : w.groups g ≡ Linked i = good.linked i g (here ∙ ap Group (sym e0)) in cc (was, again))))
            (λ _. was)
        | o ↦ λ _. was
      ] in
      elim (entry_in x) as (λ e. MayLink c w e → with_linked e i (with_retired (first_entry w.words i) (suc w.token) w.groups) g ≡ Linked j) [
        | Group g1 ↦ λ free. with_at_case (λ s. s ≡ Linked j) (with_retired (first_entry w.words i) (suc w.token) w.groups) g1 (Linked i) g
            (λ e1. absurd (free_not_linked c w.passed (w.groups g1) j (ap w.groups (sym e1) ∙ was) free))
            (λ _. kept (first_entry w.words i) refl)
        | o ↦ λ _. kept (first_entry w.words i) refl
      ] may)

  pub keeps_first : (i x : ℕ) → i < length w.words.firsts → MayLink c w (entry_in x)
      → ((a lo : ℕ) → a < addresses c → lo ≤ updates_done_in w → A (suc w.clock) a lo (answer c (state_by_step c w (StoreFirst i x)).words a)) → ((t : ℕ) → t ≤ suc w.clock → Hi t (updates_begun_in w))
      → Good c A Hi (state_by_step c w (StoreFirst i x)) workers
  keeps_first i x inside may now below = record {
    token = good.token;
    passed = good.passed;
    scan = good.scan;
    unlinked = stamped_le (first_entry w.words i) (suc w.clock) w.unlinked (λ g. omega (arith, good.unlinked g));
    linked = linked_first i x inside may;
    workers_ok = λ k. let ok = good.workers_ok k in
        worker_stays c A Hi w (state_by_step c w (StoreFirst i x)) k (workers k) (omega arith) (omega arith) (omega arith)
        (λ run g lt. held_linked k (workers k) ok run i (entry_in x) may g lt) (half_first k (workers k) ok i x inside) ok;
    now = now;
    below = below;
  }

  pub keeps_second : (j x : ℕ) → MayFill c w.passed (w.groups (j / 2 ^ c.second))
      → ((a lo : ℕ) → a < addresses c → lo ≤ updates_done_in w → A (suc w.clock) a lo (answer c (state_by_step c w (StoreSecond j x)).words a)) → ((t : ℕ) → t ≤ suc w.clock → Hi t (updates_begun_in w))
      → Good c A Hi (state_by_step c w (StoreSecond j x)) workers
  keeps_second j x may now below = record {
    token = good.token;
    passed = good.passed;
    scan = good.scan;
    unlinked = λ g. omega (arith, good.unlinked g);
    linked = good.linked;
    workers_ok = λ k. let ok = good.workers_ok k in
        worker_stays c A Hi w (state_by_step c w (StoreSecond j x)) k (workers k) (omega arith) (omega arith) (omega arith)
        ok.grace (half_second k (workers k) ok j x may) ok;
    now = now;
    below = below;
  }
