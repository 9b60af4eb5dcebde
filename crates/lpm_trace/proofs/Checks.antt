-- Each token that has passed was checked, and each word stays an entry's.
use Rattle.std.proofs.Common.{◌≡◌, ℕ, List, [], ◌∷◌, refl, sym, ap, subst, ◌∙◌, suc, ◌<◌, ◌≤◌, ◌⊎◌, inl, inr, Bool, true, false, cond, ◌&&◌, eqb, max, arith, ◌+◌, length, slice_index, slice_set}
use Rattle.lpm_trace.specs.declared.step.WriterStep.{WriterStep}
use Rattle.lpm_trace.specs.declared.step.WriterStep.TheVariants.{StoreFirst, StoreSecond, LoadCounter}
use Rattle.lpm_trace.specs.declared.step.TraceStep.{TraceStep}
use Rattle.lpm_trace.specs.declared.step.TraceStep.TheVariants.{Writer, Worker as ByWorker}
use Rattle.lpm_trace.specs.States.{InitialState, TableState, state_after, MayWrite, lets_pass, state_by_step}
use Rattle.lpm_trace.specs.Progress.{progress_by_step, Follows}
use Rattle.lpm_trace.specs.Trace.{after, writes, IsTrace}
use Rattle.lpm_trace.specs.Writer.{progress_after, counter_found, Finds, WriterIsAlone, WriterGoesOn, passed_after}
use Rattle.lpm_trace.proofs.Traces.{state_is}
use Rattle.std.proofs.lemmas.Bool.Decides.{eqb_tells}
use Rattle.std.proofs.lemmas.Bool.{cases_lt}
use Rattle.lpm_trace.specs.Laws.{HasLetPass, IsChecked, PassedIsChecked, WordsAreEntries}
use Rattle.lpm_trace.proofs.Versions.{by_number, token_is, passed_is, set_case}
use Rattle.std.proofs.lemmas.List.{length-set}
use Rattle.lpm_cells.specs.declared.entry.Entry.{Entry}
use Rattle.lpm_cells.specs.declared.entry.Entry.TheVariants.{Group}
use Rattle.lpm_cells.specs.Words.{IsLastWord, entry_in, IsFirst, IsFirstWord, IsWords}

-- The writer's steps by themselves.

-- what the workers do leaves the writer's progress
progress_is : (c : InitialState) (steps : List TraceStep) → (after c steps).progress ≡ progress_after c (writes steps)
progress_is c [] = refl
progress_is c (Writer s ∷ steps) =
    ap (λ w. progress_by_step c w (after c steps).progress s) (state_is c steps) ∙ ap (λ x. progress_by_step c (state_after c (writes steps)) x s) (progress_is c steps)
progress_is c (ByWorker k s ∷ steps) = progress_is c steps

-- a load alone looks at a counter
by_found : (c : InitialState) (counters : ℕ → ℕ) (w : TableState) (s : WriterStep) → MayWrite c counters w s → MayWrite c (counter_found s) w s
by_found c counters w (LoadCounter token worker counter) may = (refl, may.1, may.2, may.3)
by_found c counters w s may = may

by_counters : (c : InitialState) (steps : List TraceStep) (w : TableState) (s : WriterStep) → Finds c steps s → MayWrite c (counter_found s) w s
    → MayWrite c (λ k. ((after c steps).workers k).counter) w s
by_counters c steps w (LoadCounter token worker counter) finds may = (finds, may.1, may.2, may.3)
by_counters c steps w s finds may = may

pub writer_is_alone : WriterIsAlone
writer_is_alone c [] trace = tt
writer_is_alone c (Writer s ∷ steps) trace =
    let w = (after c steps).state in
    let may = by_found c (λ k. ((after c steps).workers k).counter) w s trace.0.0 in (
      (
        subst (λ t. MayWrite c (counter_found s) t s) (state_is c steps) may,
        subst (λ t. Follows c t (progress_after c (writes steps)) s) (state_is c steps) (subst (λ x. Follows c w x s) (progress_is c steps) trace.0.1),
      ),
      writer_is_alone c steps trace.1,
    )
writer_is_alone c (ByWorker k s ∷ steps) trace = writer_is_alone c steps trace.1

pub writer_goes_on : WriterGoesOn
writer_goes_on c steps s trace may finds = (
  (
    by_counters c steps (after c steps).state s finds (subst (λ t. MayWrite c (counter_found s) t s) (sym (state_is c steps)) may.0),
    subst (λ t. Follows c t (after c steps).progress s) (sym (state_is c steps)) (subst (λ x. Follows c (state_after c (writes steps)) x s) (sym (progress_is c steps)) may.1),
  ),
  trace,
)

let_pass_still : (c : InitialState) (s : WriterStep) (ws : List WriterStep) (token k : ℕ) → HasLetPass c.token ws token k → HasLetPass c.token (s ∷ ws) token k
let_pass_still c s ws token k was = record {
  newer = s ∷ was.newer;
  older = was.older;
  counter = was.counter;
  split = ap (λ l. s ∷ l) was.split;
  started = was.started;
  passes = was.passes;
}

let_pass_by_load : (c : InitialState) (ws : List WriterStep) (token k counter : ℕ) → token ≤ (state_after c ws).token → lets_pass token counter ≡ true → HasLetPass c.token (LoadCounter token k counter ∷ ws) token k
let_pass_by_load c ws token k counter le passes = record { newer = []; older = ws; counter = counter; split = refl; started = omega (arith, le, token_is c ws); passes = passes }

-- the workers below the next one let the token of the running check pass, and the greatest token that has
-- passed was checked
record ScanIsSound (c : InitialState) (ws : List WriterStep) : Type 0 where
  pub scanned : (k : ℕ) → k < (state_after c ws).scan.next → HasLetPass c.token ws (state_after c ws).scan.token k
  pub passed : ((state_after c ws).passed ≡ 0) ⊎ IsChecked c.workers c.token ws (state_after c ws).passed

checked_still : (c : InitialState) (s : WriterStep) (ws : List WriterStep) (token : ℕ) → IsChecked c.workers c.token ws token → IsChecked c.workers c.token (s ∷ ws) token
checked_still c s ws token h = record { checked = h.checked; later = h.later; each = λ k lt. let_pass_still c s ws h.checked k (h.each k lt) }

passed_still : (c : InitialState) (s : WriterStep) (ws : List WriterStep) (passed : ℕ) → (passed ≡ 0) ⊎ IsChecked c.workers c.token ws passed → (passed ≡ 0) ⊎ IsChecked c.workers c.token (s ∷ ws) passed
passed_still c s ws passed (inl none) = inl none
passed_still c s ws passed (inr h) = inr (checked_still c s ws passed h)

-- a step that is no load of a counter
scan_is_sound_quiet : (c : InitialState) (s : WriterStep) (ws : List WriterStep) → ScanIsSound c ws → (state_after c (s ∷ ws)).scan ≡ (state_after c ws).scan → (state_after c (s ∷ ws)).passed ≡ (state_after c ws).passed → ScanIsSound c (s ∷ ws)
scan_is_sound_quiet c s ws sound scan passed = record {
  scanned = subst (λ z. (k : ℕ) → k < z.next → HasLetPass c.token (s ∷ ws) z.token k) (sym scan) (λ k lt. let_pass_still c s ws (state_after c ws).scan.token k (sound.scanned k lt));
  passed = subst (λ n. (n ≡ 0) ⊎ IsChecked c.workers c.token (s ∷ ws) n) (sym passed) (passed_still c s ws (state_after c ws).passed sound.passed);
}

scanned_more : (c : InitialState) (ws : List WriterStep) (token k0 counter : ℕ) → ScanIsSound c ws → token ≤ (state_after c ws).token → ((k0 ≡ 0) ⊎ (((state_after c ws).scan.next ≡ k0) × ((state_after c ws).scan.token ≡ token))) → lets_pass token counter ≡ true
    → (k : ℕ) → k < suc k0 → HasLetPass c.token (LoadCounter token k0 counter ∷ ws) token k
scanned_more c ws token k0 counter sound le next passes k lt =
    let s : WriterStep = LoadCounter token k0 counter in
    elim (eqb_tells k k0) [
      | inl same ↦ subst (HasLetPass c.token (s ∷ ws) token) (sym same.1) (let_pass_by_load c ws token k0 counter le passes)
      | inr other ↦ elim next [
        | inl first ↦ absurd (other.1 (omega (arith, first, lt)))
        | inr going ↦
            let below : k < (state_after c ws).scan.next = omega (arith, going.0, lt, other.1) in
            let_pass_still c s ws token k (subst (λ t. HasLetPass c.token ws t k) going.1 (sound.scanned k below))
      ]
    ]

scan_is_sound_by_load : (c : InitialState) (ws : List WriterStep) (token k0 counter : ℕ) → ScanIsSound c ws → token ≤ (state_after c ws).token → ((k0 ≡ 0) ⊎ (((state_after c ws).scan.next ≡ k0) × ((state_after c ws).scan.token ≡ token))) → (b : Bool) → lets_pass token counter ≡ b
    → ((k : ℕ) → k < cond b (suc k0) 0 → HasLetPass c.token (LoadCounter token k0 counter ∷ ws) token k)
    × ((cond (b && eqb (suc k0) c.workers) (max (state_after c ws).passed token) (state_after c ws).passed ≡ 0)
    ⊎ IsChecked c.workers c.token (LoadCounter token k0 counter ∷ ws) (cond (b && eqb (suc k0) c.workers) (max (state_after c ws).passed token) (state_after c ws).passed))
scan_is_sound_by_load c ws token k0 counter sound le next false passes = (λ k lt. absurd (omega (arith, lt)), passed_still c (LoadCounter token k0 counter) ws (state_after c ws).passed sound.passed)
scan_is_sound_by_load c ws token k0 counter sound le next true passes =
    let s : WriterStep = LoadCounter token k0 counter in
    let w : TableState = state_after c ws in
    let more = scanned_more c ws token k0 counter sound le next passes in (
      more,
      by_number (λ b. (cond b (max w.passed token) w.passed ≡ 0) ⊎ IsChecked c.workers c.token (s ∷ ws) (cond b (max w.passed token) w.passed)) (suc k0) c.workers
          (λ last. elim (cases_lt w.passed token) [
            | inl greater ↦ inr (record { checked = token; later = omega (arith, greater); each = λ k lt. more k (omega (arith, lt, last.1)) })
            | inr stays ↦
                let same : max w.passed token ≡ w.passed = omega (arith, stays) in
                subst (λ n. (n ≡ 0) ⊎ IsChecked c.workers c.token (s ∷ ws) n) (sym same) (passed_still c s ws w.passed sound.passed)
          ])
          (λ other. passed_still c s ws w.passed sound.passed),
    )

scan_is_sound_more : (c : InitialState) (counters : ℕ → ℕ) (ws : List WriterStep) (s : WriterStep) → ScanIsSound c ws → MayWrite c counters (state_after c ws) s → ScanIsSound c (s ∷ ws)
scan_is_sound_more c counters ws (LoadCounter token k0 counter) sound may =
    let both = scan_is_sound_by_load c ws token k0 counter sound may.2 may.3 (lets_pass token counter) refl in
    record { scanned = both.0; passed = both.1 }
scan_is_sound_more c counters ws s sound may = scan_is_sound_quiet c s ws sound refl refl

scan_is_sound_in_trace : (c : InitialState) (steps : List TraceStep) → IsTrace c steps → ScanIsSound c (writes steps)
scan_is_sound_in_trace c [] trace = record { scanned = λ k lt. absurd (omega (arith, lt)); passed = inl refl }
scan_is_sound_in_trace c (Writer s ∷ steps) trace =
    scan_is_sound_more c (λ k. ((after c steps).workers k).counter) (writes steps) s (scan_is_sound_in_trace c steps trace.1)
    (subst (λ w. MayWrite c (λ k. ((after c steps).workers k).counter) w s) (state_is c steps) trace.0.0)
scan_is_sound_in_trace c (ByWorker k s ∷ steps) trace = scan_is_sound_in_trace c steps trace.1

pub passed_is_checked : PassedIsChecked
passed_is_checked c steps token trace some le =
    let same : (state_after c (writes steps)).passed ≡ passed_after c.workers (writes steps) = passed_is c (writes steps) in
    elim (scan_is_sound_in_trace c steps trace).passed [
      | inl none ↦ absurd (omega (arith, none, same, some, le))
      | inr h ↦ record { checked = h.checked; later = omega (arith, h.later, same, le); each = h.each }
    ]

-- Each word stays that of an entry that may stand at its place.

first_room : (second : ℕ) (xs ys : List ℕ) → length ys ≡ length xs → (e : Entry) → IsFirst second xs e → IsFirst second ys e
first_room second xs ys same (Group group) h = omega (arith, h, same)
first_room second xs ys same e h = tt

entries_kept : (c : InitialState) (counters : ℕ → ℕ) (w : TableState) (s : WriterStep) → IsWords c.first c.second w.words → MayWrite c counters w s → IsWords c.first c.second (state_by_step c w s).words
entries_kept c counters w (StoreFirst i x) was may =
    let len : length (slice_set w.words.firsts i x) ≡ length w.words.firsts = length-set w.words.firsts i x in
    record {
      firsts_len = len ∙ was.firsts_len;
      first_words = λ j lt. set_case (IsFirstWord (c.first + c.second) c.second w.words.seconds) w.words.firsts i x j may.1 (λ _. may.2) (λ _. was.first_words j (omega (arith, lt, len)));
      second_words = was.second_words;
    }
entries_kept c counters w (StoreSecond j x) was may =
    let seconds = slice_set w.words.seconds j x in
    let len : length seconds ≡ length w.words.seconds = length-set w.words.seconds j x in
    record {
      firsts_len = was.firsts_len;
      first_words = λ i lt. let here = was.first_words i lt in (here.0, first_room c.second w.words.seconds seconds len (entry_in (slice_index w.words.firsts i)) here.1);
      second_words = λ k lt. set_case (IsLastWord (c.first + c.second)) w.words.seconds j x k may.1 (λ _. may.2) (λ _. was.second_words k (omega (arith, lt, len)));
    }
entries_kept c counters w s was may = was

pub words_are_entries : WordsAreEntries
words_are_entries c [] settled trace = settled.words
words_are_entries c (Writer s ∷ steps) settled trace =
    entries_kept c (λ k. ((after c steps).workers k).counter) (after c steps).state s (words_are_entries c steps settled trace.1) trace.0.0
words_are_entries c (ByWorker k s ∷ steps) settled trace = words_are_entries c steps settled trace.1
