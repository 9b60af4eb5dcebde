-- The version that each address shows: the words answer by it, and it never falls.
use Rattle.std.proofs.Common.{◌≡◌, ℕ, ◌≢◌, ◌<◌, inl, inr, cond, eq-eqb, List, [], ◌∷◌, length, slice_index, slice_set, All, refl, sym, ap, subst, ◌∙◌, get_or-set_same, get_or-set_other, suc, eqb, ◌&&◌, max, arith, ◌+◌, ◌/◌, ◌%◌, ◌≤◌, ◌⊎◌, Bool, true, false, Option, Some, None}
use Rattle.std.proofs.lemmas.Bool.Decides.{eqb_tells}
use Rattle.std.proofs.lemmas.List.Elements.{All-nil, All-cons}
use Rattle.lpm_trace.specs.States.{with_at, InitialState, state_after, lets_pass, TableState, IsSettled, addresses, answer, IsAnswer, updates_done_in, updates_begun_in, version, rules_by, is_same, answer_changed_by, state_by_step, initial_table_state, Moves, MayWrite}
use Rattle.std.proofs.lemmas.List.{length-set}
use Rattle.lpm_trace.specs.declared.step.WriterStep.{WriterStep}
use Rattle.lpm_trace.specs.declared.step.WriterStep.TheVariants.{StoreFirst, StoreSecond, BeginUpdate, EndUpdate, BumpToken, LoadCounter}
use Rattle.lpm_trace.specs.Writer.{token_after, passed_after, first_word_after}
use Rattle.lpm_cells.specs.Words.{Words, with_first, with_second}
use Rattle.lpm_rules.specs.RuleMap.{RuleMap}

-- Functions changed at one place, words changed at one place, and lists whose members all have a
-- property.

-- a fact of whether j is i
pub by_number : (P : Bool → Type 0) (j i : ℕ) → ((eqb j i ≡ true) × (j ≡ i) → P true) → ((eqb j i ≡ false) × (j ≢ i) → P false) → P (eqb j i)
by_number P j i here there = elim (eqb_tells j i) [
  | inl h ↦ subst P (sym h.0) (here h)
  | inr h ↦ subst P (sym h.0) (there h)
]

-- a fact of f with x at i, by whether j is i
pub with_at_case : {A : Type 0} (P : A → Type 0) (f : ℕ → A) (i : ℕ) (x : A) (j : ℕ) → (j ≡ i → P x) → (j ≢ i → P (f j)) → P (with_at f i x j)
with_at_case P f i x j here there = by_number (λ b. P (cond b x (f j))) j i (λ h. here h.1) (λ h. there h.1)

pub with_at-same : {A : Type 0} (f : ℕ → A) (i : ℕ) (x : A) → with_at f i x i ≡ x
with_at-same f i x = rw (eq-eqb i i refl) refl

pub with_at-other : {A : Type 0} (f : ℕ → A) (i : ℕ) (x : A) (j : ℕ) → j ≢ i → with_at f i x j ≡ f j
with_at-other f i x j ne = with_at_case (λ y. y ≡ f j) f i x j (λ e. absurd (ne e)) (λ _. refl)

-- a fact of the word at j, where x is stored at i, by whether j is i
pub set_case : (P : ℕ → Type 0) (xs : List ℕ) (i x j : ℕ) → i < length xs → (j ≡ i → P x) → (j ≢ i → P (slice_index xs j)) → P (slice_index (slice_set xs i x) j)
set_case P xs i x j inside here there = elim (eqb_tells j i) [
  | inl h ↦ subst P (sym (ap (λ k. slice_index (slice_set xs i x) k) h.1 ∙ get_or-set_same xs i x 0 inside)) (here h.1)
  | inr h ↦ subst P (sym (get_or-set_other xs i j x 0 h.1)) (there h.1)
]

-- each member has the property
abbrev pub Each : {A : Type 0} → (A → Type 0) → List A → Type 0
Each P [] = Unit {0}
Each P (x ∷ xs) = P x × Each P xs

pub each_map : {A : Type 0} (P Q : A → Type 0) → ((x : A) → P x → Q x) → (xs : List A) → Each P xs → Each Q xs
each_map P Q f [] h = tt
each_map P Q f (x ∷ xs) h = (f x h.0, each_map P Q f xs h.1)

pub each_all : {A : Type 0} (P : A → Type 0) (xs : List A) → Each P xs → All P xs
each_all P [] h = All-nil P
each_all P (x ∷ xs) h = All-cons P x xs h.0 (each_all P xs h.1)

-- What is counted over the writer's steps is what the state says.

pub token_is : (c : InitialState) (steps : List WriterStep) → (state_after c steps).token ≡ token_after c.token steps
token_is c [] = refl
token_is c (BumpToken ∷ steps) = omega (arith, token_is c steps)
token_is c (s ∷ steps) = token_is c steps

pub passed_is : (c : InitialState) (steps : List WriterStep) → (state_after c steps).passed ≡ passed_after c.workers steps
passed_is c [] = refl
passed_is c (LoadCounter token worker counter ∷ steps) =
    ap (λ n. cond (lets_pass token counter && eqb (suc worker) c.workers) (max n token) n) (passed_is c steps)
passed_is c (s ∷ steps) = passed_is c steps

pub firsts_length : (c : InitialState) (steps : List WriterStep) → length (state_after c steps).words.firsts ≡ length c.words.firsts
firsts_length c [] = refl
firsts_length c (StoreFirst i x ∷ steps) = length-set (state_after c steps).words.firsts i x ∙ firsts_length c steps
firsts_length c (s ∷ steps) = firsts_length c steps

pub first_word_is : (c : InitialState) (steps : List WriterStep) (block : ℕ) → block < length c.words.firsts
    → slice_index (state_after c steps).words.firsts block ≡ first_word_after c.words.firsts steps block
first_word_is c [] block within = refl
first_word_is c (StoreFirst i x ∷ steps) block within =
    let firsts : List ℕ = (state_after c steps).words.firsts in
    elim (eqb_tells i block) [
      | inl here ↦
          subst (λ k. slice_index (slice_set firsts i x) k ≡ x) here.1
          (get_or-set_same firsts i x 0 (omega (arith, here.1, within, firsts_length c steps)))
          ∙ sym (ap (λ b. cond b x (first_word_after c.words.firsts steps block)) here.0)
      | inr other ↦
          get_or-set_other firsts i block x 0 (λ same. other.1 (sym same))
          ∙ first_word_is c steps block within
          ∙ sym (ap (λ b. cond b x (first_word_after c.words.firsts steps block)) other.0)
    ]
first_word_is c (s ∷ steps) block within = first_word_is c steps block within

is_same_tells : (x y : Option ℕ) → ((is_same x y ≡ true) × (x ≡ y)) ⊎ ((is_same x y ≡ false) × (x ≢ y))
is_same_tells None None = inl (refl, refl)
is_same_tells (Some x) (Some y) = elim (eqb_tells x y) [
  | inl h ↦ inl (h.0, ap Some h.1)
  | inr h ↦ inr (h.0, λ e. h.1 (cc e))
]
is_same_tells None (Some y) = inr (refl, λ e. cc e)
is_same_tells (Some x) None = inr (refl, λ e. cc e)

-- no address has turned where no update runs, and the words answer, at each address, by the version
-- that it shows
pub record Shows (c : InitialState) (w : TableState) : Type 0 where
  pub still : w.sequence % 2 ≡ 0 → (a : ℕ) → w.answer_changed a ≡ false
  pub shown : (a : ℕ) → a < addresses c → IsAnswer c (w.history (version w a)) a (answer c w.words a)

-- an address answers by the version that it shows after a store
moved_shown : (c : InitialState) (w : TableState) → Shows c w → (z : Words) → Moves c w z → (a : ℕ) → a < addresses c
    → IsAnswer c (w.history (cond (answer_changed_by c w z a) (updates_begun_in w) (updates_done_in w))) a (answer c z a)
moved_shown c w shows z moves a lt = elim (is_same_tells (answer c w.words a) (answer c z a)) [
  | inl same ↦ subst (λ b. IsAnswer c (w.history (cond (cond b (w.answer_changed a) true) (updates_begun_in w) (updates_done_in w))) a (answer c z a)) (sym same.0)
      (subst (IsAnswer c (w.history (version w a)) a) same.1 (shows.shown a lt))
  | inr other ↦ subst (λ b. IsAnswer c (w.history (cond (cond b (w.answer_changed a) true) (updates_begun_in w) (updates_done_in w))) a (answer c z a)) (sym other.0)
      (elim (moves a lt) [
        | inl keeps ↦ absurd (other.1 (sym keeps))
        | inr turns ↦ turns.2
      ])
]

pub keeps_shows : (c : InitialState) (counters : ℕ → ℕ) (w : TableState) → Shows c w → (s : WriterStep) → MayWrite c counters w s → Shows c (state_by_step c w s)
keeps_shows c counters w shows (StoreFirst i x) may = record {
  still = λ even a. absurd (omega (arith, even, may.0));
  shown = λ a lt. moved_shown c w shows (with_first w.words i x) may.4 a lt;
}
keeps_shows c counters w shows (StoreSecond j x) may = record {
  still = λ even a. absurd (omega (arith, even, may.0));
  shown = λ a lt. moved_shown c w shows (with_second w.words j x) may.4 a lt;
}
keeps_shows c counters w shows (BeginUpdate change) may =
    let same : suc w.sequence / 2 ≡ updates_done_in w = omega (arith, may.0) in
    let other : suc w.sequence / 2 ≢ suc (updates_begun_in w) = omega arith in
    let new : RuleMap = rules_by (w.history (updates_begun_in w)) change in
    record {
      still = λ even a. absurd (omega (arith, even, may.0));
      shown = λ a lt.
          let none = shows.still may.0 a in
          let was : IsAnswer c (w.history (updates_done_in w)) a (answer c w.words a) = subst (λ b. IsAnswer c (w.history (cond b (updates_begun_in w) (updates_done_in w))) a (answer c w.words a)) none (shows.shown a lt) in
          subst (λ b. IsAnswer c (with_at w.history (suc (updates_begun_in w)) new (cond b ((suc w.sequence + 1) / 2) (suc w.sequence / 2))) a (answer c w.words a)) (sym none)
          (subst (λ R. IsAnswer c R a (answer c w.words a)) (sym (with_at-other w.history (suc (updates_begun_in w)) new (suc w.sequence / 2) other))
          (subst (λ k. IsAnswer c (w.history k) a (answer c w.words a)) (sym same) was));
    }
keeps_shows c counters w shows EndUpdate may =
    let same : suc w.sequence / 2 ≡ updates_begun_in w = omega arith in
    record {
      still = λ even a. refl;
      shown = λ a lt. subst (λ k. IsAnswer c (w.history k) a (answer c w.words a)) (sym same) (may.1 a lt);
    }
keeps_shows c counters w shows s may = record { still = shows.still; shown = shows.shown }

pub initial_shows : (c : InitialState) → IsSettled c → Shows c (initial_table_state c)
initial_shows c settled = record { still = λ even a. refl; shown = settled.answers }

cond_ge : (b : Bool) (x y : ℕ) → x ≤ y → x ≤ cond b y x
cond_ge true x y h = h
cond_ge false x y h = omega arith

cond_le : (b : Bool) (x y : ℕ) → x ≤ y → cond b y x ≤ y
cond_le true x y h = omega arith
cond_le false x y h = h

cond_rises : (b : Bool) (x y x' y' : ℕ) → x ≤ x' → y ≤ y' → cond b y x ≤ cond b y' x'
cond_rises true x y x' y' h g = g
cond_rises false x y x' y' h g = h

pub version_ge : (w : TableState) (a : ℕ) → updates_done_in w ≤ version w a
version_ge w a = cond_ge (w.answer_changed a) (updates_done_in w) (updates_begun_in w) (omega arith)

pub version_le : (w : TableState) (a : ℕ) → version w a ≤ updates_begun_in w
version_le w a = cond_le (w.answer_changed a) (updates_done_in w) (updates_begun_in w) (omega arith)

-- where no update runs, an address answers by the version done
pub rest_shown : (c : InitialState) (w : TableState) → Shows c w → updates_done_in w ≡ updates_begun_in w → (a : ℕ) → a < addresses c
    → IsAnswer c (w.history (updates_done_in w)) a (answer c w.words a)
rest_shown c w shows rests a lt =
    let same : version w a ≡ updates_done_in w = omega (arith, version_ge w a, version_le w a, rests) in
    subst (λ k. IsAnswer c (w.history k) a (answer c w.words a)) same (shows.shown a lt)

turned_rises : (b t : Bool) (x y : ℕ) → x ≤ y → cond t y x ≤ cond (cond b t true) y x
turned_rises true t x y h = omega arith
turned_rises false t x y h = cond_le t x y h

pub rises : (c : InitialState) (w : TableState) (s : WriterStep) (a : ℕ) → version w a ≤ version (state_by_step c w s) a
rises c w (StoreFirst i x) a = turned_rises (is_same (answer c w.words a) (answer c (with_first w.words i x) a)) (w.answer_changed a) (updates_done_in w) (updates_begun_in w) (omega arith)
rises c w (StoreSecond j x) a = turned_rises (is_same (answer c w.words a) (answer c (with_second w.words j x) a)) (w.answer_changed a) (updates_done_in w) (updates_begun_in w) (omega arith)
rises c w (BeginUpdate change) a = cond_rises (w.answer_changed a) (updates_done_in w) (updates_begun_in w) (suc w.sequence / 2) ((suc w.sequence + 1) / 2) (omega arith) (omega arith)
rises c w EndUpdate a = let most : version w a ≤ updates_begun_in w = version_le w a in omega (arith, most)
rises c w BumpToken a = omega arith
rises c w (LoadCounter token worker counter) a = omega arith

-- the sequence never falls, and what was begun stays in the history
pub sequence_grows : (c : InitialState) (w : TableState) (s : WriterStep) → w.sequence ≤ (state_by_step c w s).sequence
sequence_grows c w (StoreFirst i x) = omega arith
sequence_grows c w s = omega arith

pub history_stays : (c : InitialState) (w : TableState) (s : WriterStep) (k : ℕ) → k ≤ updates_begun_in w → (state_by_step c w s).history k ≡ w.history k
history_stays c w (BeginUpdate change) k le = with_at-other w.history (suc (updates_begun_in w)) (rules_by (w.history (updates_begun_in w)) change) k (omega (arith, le))
history_stays c w s k le = refl

pub tick : (c : InitialState) (w : TableState) (s : WriterStep) → (state_by_step c w s).clock ≡ suc w.clock
tick c w (StoreFirst i x) = refl
tick c w s = refl
