-- What the writer does keeps the rule.
use Rattle.std.proofs.Common.{◌≡◌, ◌≢◌, ℕ, zero, suc, ◌+◌, ◌<◌, ◌≤◌, ◌⊎◌, inl, inr, cond, eqb, eq-eqb, ne_eqb, Bool, List, [], ◌∷◌, ◌++◌, length, slice_index, slice_set, refl, sym, ap, subst, ◌∙◌, append-nil, arith}
use Rattle.std.proofs.lemmas.List.{set-get_or}
use mathlib.Core.Option.{none, some, some-injective, some-ne-none}
use lib.ListN.{get_elem?}
use Rattle.atomic_table.specs.Table.{State, Me, step, keeps, Allows, Splits, opening}
use Rattle.atomic_table.proofs.Lists.{at_set, set_again}
use Rattle.lpm_cells.specs.Words.{IsWords}
use Rattle.lpm_cells.proofs.ReadBack.{word_below}
use Rattle.lpm_trace.specs.declared.step.RuleChange.{RuleChange}
use Rattle.lpm_trace.specs.declared.step.WriterStep.{WriterStep}
use Rattle.lpm_trace.specs.declared.step.WriterStep.TheVariants.{StoreFirst, StoreSecond, BeginUpdate, EndUpdate, BumpToken, LoadCounter}
use Rattle.lpm_trace.specs.declared.step.TraceStep.{TraceStep}
use Rattle.lpm_trace.specs.declared.step.TraceStep.TheVariants.{Writer as ByWriter}
use Rattle.lpm_trace.specs.States.{TableState, IsSettled, state_after, state_by_step}
use Rattle.lpm_trace.specs.Progress.{progress_by_step}
use Rattle.lpm_trace.specs.Trace.{World, IsTrace, apply, after, writes, own_steps}
use Rattle.lpm_trace.specs.Writer.{MayStep, Finds as FindsCounter}
use Rattle.lpm_trace.proofs.Traces.{state_is}
use Rattle.lpm_trace.proofs.Promises.{writer_is_alone, writer_goes_on, passed_is_checked, words_are_entries}
use Rattle.shared_words.specs.declared.view.Role.{Role}
use Rattle.shared_words.specs.declared.view.Role.TheVariants.{Writer, Worker, Note}
use Rattle.shared_words.specs.declared.view.View.{View}
use Rattle.shared_words.specs.Layout.{InitialData, initial_state_of, IsLaidOut, half, first_at, second_at, sequence_at, token_at, counter_at, initial_words}
use Rattle.shared_words.specs.Rule.{IsLater, SeatPlan, Sits, IsViewOf, Holds, writer_view, worker_view, with_one_more}
use Rattle.shared_words.specs.Seats.{AreLawful, WriterGains, IsFoundAt, WriterLooks, with_step, state_of_view, MayFollow}
use Rattle.shared_words.proofs.WordPlaces.{firsts_length, seconds_length, lays_first, lays_second, lays_sequence, lays_token, lays_none, lays_initial}

abbrev St : Type 0
St = State (Unit {0}) View

-- a seat's view, and the slots that it holds, which are none
abbrev Mine : Type 0
Mine = Me (Unit {0}) View

-- a word in which first word i stands has its neighbour there as the writer's steps left it
abbrev pub KeepsFirst : InitialData → List WriterStep → ℕ → ℕ → Type 0
KeepsFirst o seen i word = (k : ℕ) → k < length o.firsts → first_at k ≡ first_at i → k ≢ i
    → half k word ≡ slice_index (state_after (initial_state_of o) seen).words.firsts k

-- a word in which second word j stands has its neighbour there as the writer's steps left it
abbrev pub KeepsSecond : InitialData → List WriterStep → ℕ → ℕ → Type 0
KeepsSecond o seen j word = (k : ℕ) → k < length o.seconds → second_at o k ≡ second_at o j → k ≢ j
    → half k word ≡ slice_index (state_after (initial_state_of o) seen).words.seconds k

abbrev with_words : St → List ℕ → List View → St
with_words s words views = record { words = words; homes = s.homes; views = views }

later_more : (before now : List WriterStep) (s : WriterStep) → IsLater before now → IsLater before (s ∷ now)
later_more before now s h = (s ∷ h.0, ap (λ (z : List WriterStep). s ∷ z) h.1)

pub later_none : (now : List WriterStep) → IsLater [] now
later_none now = (now, sym (append-nil now))

-- a fact of each seat, after one seat's view is set
pub seats_set : (K : ℕ → View → Type 0) (views : List View) (me : ℕ) (w : View) → K me w
    → ((j : ℕ) (u : View) → j ≢ me → get_elem? views j ≡ some u → K j u)
    → (j : ℕ) (u : View) → get_elem? (slice_set views me w) j ≡ some u → K j u
seats_set K views me w mine others j u there = elim (at_set views me j w u there) [
  | inl h ↦ subst (λ (z : ℕ × View). K z.0 z.1) (λ i. (sym h.0 i, h.1 i)) mine
  | inr h ↦ others j u h.0 h.1
]

-- another seat, after a step of the writer
aside : (o : InitialData) (steps : List TraceStep) (seating : SeatPlan) (me : ℕ) (step : WriterStep)
    → me ≡ seating.writer → (j : ℕ) (u : View) → j ≢ me → (r : Role)
    → Sits o steps seating j u r → Sits o (ByWriter step ∷ steps) seating j u r
aside o steps seating me step mine j u other Writer h = absurd (other (h.0 ∙ sym mine))
aside o steps seating me step mine j u other (Worker k) h = h
aside o steps seating me step mine j u other Note h = tt

module _ (o : InitialData) where
  -- the state and the world after these steps
  abbrev state_after_writer : List WriterStep → TableState
  state_after_writer seen = state_after (initial_state_of o) seen

  abbrev world_by : List TraceStep → World
  world_by steps = after (initial_state_of o) steps

  -- the words are those of the world after a step of the writer
  abbrev IsLaidAfter : List ℕ → World → WriterStep → Type 0
  IsLaidAfter words w step = IsLaidOut o words (apply (initial_state_of o) w (ByWriter step))

  -- what the rule says of the writer's seat
  pub sits_writer : (s : St) (h : Holds o s) (id : ℕ) (v : View) → get_elem? s.views id ≡ some v
      → v.role ≡ Writer → Sits o h.steps h.seating id v Writer
  sits_writer s h id v here was = subst (Sits o h.steps h.seating id v) was (h.views id v here).sits

  -- a step of the writer
  pub writer_step : (s : St) (h : Holds o s) (id : ℕ) (v : View) (step : WriterStep) (words : List ℕ)
      → get_elem? s.views id ≡ some v → v.role ≡ Writer → MayStep (initial_state_of o) v.writer_steps step
      → FindsCounter (initial_state_of o) h.steps step → IsLaidAfter words (world_by h.steps) step
      → Holds o (with_words s words (slice_set s.views id (with_step v step)))
  writer_step s h id v step words here was may found laid =
      let steps = h.steps in
      let new : List TraceStep = ByWriter step ∷ steps in
      let mine : Sits o steps h.seating id v Writer = sits_writer s h id v here was in
      let told : IsLater v.heard (writes steps) = (h.views id v here).heard in
      let w : View = with_step v step in
      let seen : w.writer_steps ≡ writes new = ap (λ (z : List WriterStep). step ∷ z) mine.2 in
      let sits : Sits o new h.seating id w Writer = (mine.0, mine.1, seen, mine.3) in
      let may' = subst (λ (z : List WriterStep). MayStep (initial_state_of o) z step) mine.2 may in
      record {
        steps = new;
        seating = h.seating;
        settled = h.settled;
        trace = writer_goes_on (initial_state_of o) steps step h.trace may' found;
        words = laid;
        made = h.made;
        unmade = h.unmade;
        views = seats_set (IsViewOf o new h.seating) s.views id w
            (record {
              sits = subst (Sits o new h.seating id w) (sym was) sits;
              writer_steps = ([], sym seen);
              heard = later_more v.heard (writes steps) step told;
            })
            (λ j u other there. let f = h.views j u there in record {
              sits = aside o steps h.seating id step mine.0 j u other u.role f.sits;
              writer_steps = later_more u.writer_steps (writes steps) step f.writer_steps;
              heard = later_more u.heard (writes steps) step f.heard;
            });
      }

  -- a word is loaded, which leaves it
  pub unread : (s : St) (i : ℕ) (views : List View) → Holds o (with_words s s.words views)
      → Holds o (with_words s (slice_set s.words i (slice_index s.words i)) views)
  unread s i views h =
      subst (λ (ws : List ℕ). Holds o (with_words s ws views)) (sym (set-get_or s.words i 0)) h

  -- the writer's steps of a trace are lawful
  lawful_in : (steps : List TraceStep) → IsSettled (initial_state_of o) → IsTrace (initial_state_of o) steps
      → AreLawful o (writes steps)
  lawful_in steps settled trace =
      let c = initial_state_of o in
      let now : (world_by steps).state ≡ state_after_writer (writes steps) = state_is c steps in record {
        written = writer_is_alone c steps trace;
        words = subst (λ (z : TableState). IsWords o.first o.second z.words) now (words_are_entries c steps settled trace);
        checked = λ token pos low. passed_is_checked c steps token trace pos low;
      }

  -- and those of its view, with one more that may come next
  lawful_after : (s : St) (h : Holds o s) (v : View) (step : WriterStep) → v.initial ≡ o → v.writer_steps ≡ writes h.steps
      → MayStep (initial_state_of o) v.writer_steps step → FindsCounter (initial_state_of o) h.steps step
      → AreLawful v.initial (step ∷ v.writer_steps)
  lawful_after s h v step initial seen may found =
      let c = initial_state_of o in
      let may' = subst (λ (z : List WriterStep). MayStep c z step) seen may in
      subst (λ (z : InitialData × List WriterStep). AreLawful z.0 (step ∷ z.1)) (λ i. (sym initial i, sym seen i))
      (lawful_in (ByWriter step ∷ h.steps) h.settled (writer_goes_on c h.steps step h.trace may' found))

  -- what the writer finds at a place
  finds : (s : St) (h : Holds o s) (at : ℕ) → IsFoundAt o (writes h.steps) at (slice_index s.words at)
  finds s h at =
      let c = initial_state_of o in
      let now : (world_by h.steps).state ≡ state_after_writer (writes h.steps) = state_is c h.steps in
      let found : (k : ℕ) → at ≡ k → slice_index s.words at ≡ slice_index s.words k =
      λ k e. ap (slice_index s.words) e in
      record {
        first = λ i lt place. ap (half i) (found (first_at i) place) ∙ h.words.firsts i lt
            ∙ ap (λ (z : TableState). slice_index z.words.firsts i) now;
        second = λ j lt place. ap (half j) (found (second_at o j) place) ∙ h.words.seconds j lt
            ∙ ap (λ (z : TableState). slice_index z.words.seconds j) now;
        sequence = λ place. found sequence_at place ∙ h.words.sequence
            ∙ ap (λ (z : TableState). z.sequence) now;
        token = λ place. found token_at place ∙ h.words.token
            ∙ ap (λ (z : TableState). z.token) now;
      }

  -- the calls of the writer's seat, at a place of the words
  module _ (slots id at : ℕ) (me : Mine) (was : me.0.role ≡ Writer) where
    abbrev seen : List WriterStep
    seen = me.0.writer_steps

    -- a store: the word becomes n
    store_allowed : (n : ℕ) (step : WriterStep) → MayFollow me.0 step
        → ((steps : List TraceStep) → FindsCounter (initial_state_of o) steps step)
        → ((words : List ℕ) (w : World) → me.0.initial ≡ o → w.state ≡ state_after_writer seen
        → IsLaidOut o words w → IsLaidAfter (slice_set words at n) w step)
        → Allows (Holds o) slots id me at (λ _. n) (λ _. WriterGains step me)
    store_allowed n step may found lays s h fits here range =
        let mine : Sits o h.steps h.seating id me.0 Writer = sits_writer s h id me.0 here was in
        let w : World = world_by h.steps in
        let now : w.state ≡ state_after_writer seen = state_is (initial_state_of o) h.steps ∙ ap state_after_writer (sym mine.2) in
        let may' = subst (λ (z : InitialData). MayStep (initial_state_of z) seen step) mine.1 may in
        let laid : IsLaidAfter (slice_set s.words at n) w step = lays s.words w mine.1 now h.words in (
          with_step me.0 step,
          keeps,
          tt,
          writer_step s h id me.0 step (slice_set s.words at n) here was may' (found h.steps) laid,
          (refl, lawful_after s h me.0 step mine.1 mine.2 may' (found h.steps)),
        )

    pub first_allowed : (i x n : ℕ) → at ≡ first_at i → half i n ≡ x
        → KeepsFirst me.0.initial seen i n → MayFollow me.0 (StoreFirst i x)
        → Allows (Holds o) slots id me at (λ _. n) (λ _. WriterGains (StoreFirst i x) me)
    first_allowed i x n place stored kept may = store_allowed n (StoreFirst i x) may (λ _. tt)
        (λ words w is now laid.
        let len : length me.0.initial.firsts ≡ length o.firsts = ap (λ (z : InitialData). length z.firsts) is in
        let stays = firsts_length (initial_state_of me.0.initial) seen in
        let kept' : KeepsFirst o seen i n = subst (λ (z : InitialData). KeepsFirst z seen i n) is kept in
        subst (λ (q : ℕ). IsLaidAfter (slice_set words q n) w (StoreFirst i x)) (sym place)
        (lays_first o words w laid i x n (omega (arith, may.0.1, stays, len)) stored
        (λ k lt e ne. kept' k lt e ne ∙ ap (λ (z : TableState). slice_index z.words.firsts k) (sym now))))

    pub second_allowed : (j x n : ℕ) → at ≡ second_at o j → half j n ≡ x
        → KeepsSecond me.0.initial seen j n → MayFollow me.0 (StoreSecond j x)
        → Allows (Holds o) slots id me at (λ _. n) (λ _. WriterGains (StoreSecond j x) me)
    second_allowed j x n place stored kept may = store_allowed n (StoreSecond j x) may (λ _. tt)
        (λ words w is now laid.
        let len : length me.0.initial.seconds ≡ length o.seconds = ap (λ (z : InitialData). length z.seconds) is in
        let stays = seconds_length (initial_state_of me.0.initial) seen in
        let kept' : KeepsSecond o seen j n = subst (λ (z : InitialData). KeepsSecond z seen j n) is kept in
        subst (λ (q : ℕ). IsLaidAfter (slice_set words q n) w (StoreSecond j x)) (sym place)
        (lays_second o words w laid j x n (omega (arith, may.0.1, stays, len)) stored
        (λ k lt e ne. kept' k lt e ne ∙ ap (λ (z : TableState). slice_index z.words.seconds k) (sym now))))

    -- the next number of the sequence is stored
    next_sequence : (n : ℕ) (step : WriterStep) → at ≡ sequence_at → n ≡ (state_of_view me.0).sequence + 1
        → (words : List ℕ) (w : World) → me.0.initial ≡ o → w.state ≡ state_after_writer seen
        → IsLaidAfter (slice_set words sequence_at (suc w.state.sequence)) w step
        → IsLaidAfter (slice_set words at n) w step
    next_sequence n step place next words w is now laid =
        let one : (state_of_view me.0).sequence ≡ (state_after_writer seen).sequence =
        ap (λ (z : InitialData). (state_after (initial_state_of z) seen).sequence) is in
        let two : w.state.sequence ≡ (state_after_writer seen).sequence = ap (λ (z : TableState). z.sequence) now in
        let same : n ≡ suc w.state.sequence = omega (arith, next, one, two) in
        subst (λ (z : ℕ × ℕ). IsLaidAfter (slice_set words z.0 z.1) w step)
        (λ i. (sym place i, sym same i)) laid

    pub opens_allowed : (n : ℕ) (change : RuleChange) → at ≡ sequence_at
        → n ≡ (state_of_view me.0).sequence + 1 → MayFollow me.0 (BeginUpdate change)
        → Allows (Holds o) slots id me at (λ _. n) (λ _. WriterGains (BeginUpdate change) me)
    opens_allowed n change place next may = store_allowed n (BeginUpdate change) may (λ _. tt)
        (λ words w is now laid. next_sequence n (BeginUpdate change) place next words w is now
        (lays_sequence o words w laid (state_by_step (initial_state_of o) w.state (BeginUpdate change))
        (progress_by_step (initial_state_of o) w.state w.progress (BeginUpdate change))))

    pub closes_allowed : (n : ℕ) → at ≡ sequence_at
        → n ≡ (state_of_view me.0).sequence + 1 → MayFollow me.0 EndUpdate
        → Allows (Holds o) slots id me at (λ _. n) (λ _. WriterGains EndUpdate me)
    closes_allowed n place next may = store_allowed n EndUpdate may (λ _. tt)
        (λ words w is now laid. next_sequence n EndUpdate place next words w is now
        (lays_sequence o words w laid (state_by_step (initial_state_of o) w.state EndUpdate)
        (progress_by_step (initial_state_of o) w.state w.progress EndUpdate)))

    pub bump_allowed : (n : ℕ) → at ≡ token_at → n ≡ (state_of_view me.0).token + 1 → MayFollow me.0 BumpToken
        → Allows (Holds o) slots id me at (λ _. n) (λ _. WriterGains BumpToken me)
    bump_allowed n place next may = store_allowed n BumpToken may (λ _. tt)
        (λ words w is now laid.
        let one : (state_of_view me.0).token ≡ (state_after_writer seen).token =
        ap (λ (z : InitialData). (state_after (initial_state_of z) seen).token) is in
        let two : w.state.token ≡ (state_after_writer seen).token = ap (λ (z : TableState). z.token) now in
        let same : n ≡ suc w.state.token = omega (arith, next, one, two) in
        subst (λ (z : ℕ × ℕ). IsLaidAfter (slice_set words z.0 z.1) w BumpToken)
        (λ i. (sym place i, sym same i))
        (lays_token o words w laid (state_by_step (initial_state_of o) w.state BumpToken)
        (progress_by_step (initial_state_of o) w.state w.progress BumpToken)))

    -- a load of a worker's counter, in a check of the token
    pub counter_allowed : (token k : ℕ) → at ≡ counter_at o k → k < o.workers
        → ((counter : ℕ) → MayFollow me.0 (LoadCounter token k counter))
        → Allows (Holds o) slots id me at (λ n. n) (λ n. WriterGains (LoadCounter token k n) me)
    counter_allowed token k place inside may s h fits here range =
        let n : ℕ = slice_index s.words at in
        let load : WriterStep = LoadCounter token k n in
        let mine : Sits o h.steps h.seating id me.0 Writer = sits_writer s h id me.0 here was in
        let w : World = world_by h.steps in
        let found : n ≡ (w.workers k).counter = ap (slice_index s.words) place ∙ h.words.counters k inside in
        let may' = subst (λ (z : InitialData). MayStep (initial_state_of z) seen load) mine.1 (may n) in
        let laid : IsLaidAfter s.words w load =
        lays_none o s.words w h.words (state_by_step (initial_state_of o) w.state load)
        (progress_by_step (initial_state_of o) w.state w.progress load) in (
          with_step me.0 load,
          keeps,
          tt,
          unread s at (slice_set s.views id (with_step me.0 load))
              (writer_step s h id me.0 load s.words here was may' found laid),
          (refl, lawful_after s h me.0 load mine.1 mine.2 may' found),
        )

    -- a load of a word that the writer alone changes
    pub looks_allowed : Allows (Holds o) slots id me at (λ n. n) (WriterLooks (step slots at 0 0 none) me)
    looks_allowed s h fits here range =
        let mine : Sits o h.steps h.seating id me.0 Writer = sits_writer s h id me.0 here was in
        let same : Holds o (with_words s s.words (slice_set s.views id me.0)) =
        subst (λ (vs : List View). Holds o (with_words s s.words vs))
        (sym (set_again s.views id me.0 here)) h in
        let n : ℕ = slice_index s.words at in (
          me.0,
          keeps,
          tt,
          unread s at (slice_set s.views id me.0) same,
          (
            refl,
            subst (λ (z : InitialData × List WriterStep). IsFoundAt z.0 z.1 at n) (λ i. (sym mine.1 i, sym mine.2 i))
                (finds s h at),
          ),
        )

  -- ---- the next worker's seat

  at_end : (l : List View) (a b : View) (j : ℕ) → get_elem? (l ++ a ∷ []) j ≡ some b
      → (get_elem? l j ≡ some b) ⊎ ((j ≡ length l) × (a ≡ b))
  at_end [] a b zero e = inr (refl, some-injective a b e)
  at_end [] a b (suc j) e = absurd (some-ne-none b (sym e))
  at_end (x ∷ xs) a b zero e = inl e
  at_end (x ∷ xs) a b (suc j) e =
      elim (at_end xs a b j e) [ inl h ↦ inl h | inr h ↦ inr (ap suc h.0, h.1) ]

  -- the seats, where the next worker's is at place x
  abbrev seated : SeatPlan → ℕ → SeatPlan
  seated seating x = record {
    writer = seating.writer;
    made = seating.made + 1;
    seat_of = λ j. cond (eqb j seating.made) x (seating.seat_of j);
  }

  -- another seat, once the next worker's is there
  one_more : (steps : List TraceStep) (seating : SeatPlan) (x me : ℕ) → me ≡ seating.writer
      → (j : ℕ) (u : View) → j ≢ me → (r : Role)
      → Sits o steps seating j u r → Sits o steps (seated seating x) j u r
  one_more steps seating x me mine j u other Writer h = absurd (other (h.0 ∙ sym mine))
  one_more steps seating x me mine j u other (Worker k) h =
      let lt : k < seating.made = h.2 in
      let ne : k ≢ seating.made = λ e. omega (arith, lt, e) in
      let there = ap (λ (b : Bool). cond b x (seating.seat_of k)) (sym (ne_eqb k seating.made ne)) in
      (h.0 ∙ there, h.1, omega (arith, lt), h.3)
  one_more steps seating x me mine j u other Note h = tt

  pub next_worker_allowed : (id : ℕ) (v : View) → v.role ≡ Writer → v.made < o.workers
      → Splits {S = Unit {0}} (Holds o) id v (with_one_more v) (worker_view v)
  next_worker_allowed id v was room s h here =
      let steps = h.steps in
      let made : ℕ = h.seating.made in
      let mine : Sits o steps h.seating id v Writer = sits_writer s h id v here was in
      let knows = h.views id v here in
      let is_made : v.made ≡ made = mine.3 in
      let left : View = with_one_more v in
      let right : View = worker_view v in
      let views : List View = slice_set s.views id left in
      let x : ℕ = length views in
      let now : SeatPlan = seated h.seating x in
      let K : ℕ → View → Type 0 = IsViewOf o steps now in
      let writer_sits : Sits o steps now id left Writer =
      (mine.0, mine.1, mine.2, ap (λ (k : ℕ). k + 1) is_made) in
      let seat_is : now.seat_of v.made ≡ x =
      ap (λ (b : Bool). cond b x (h.seating.seat_of v.made)) (eq-eqb v.made made is_made) in
      let calm : [] ≡ own_steps v.made steps = sym (h.unmade v.made (omega (arith, is_made))) in
      let worker_sits : Sits o steps now x right (Worker v.made) =
      (sym seat_is, mine.1, omega (arith, is_made), calm) in
      let old : (j : ℕ) (u : View) → get_elem? views j ≡ some u → K j u =
      seats_set K s.views id left
      (record {
        sits = subst (Sits o steps now id left) (sym was) writer_sits;
        writer_steps = knows.writer_steps;
        heard = knows.heard;
      })
      (λ j u other there. let f = h.views j u there in record {
        sits = one_more steps h.seating x id mine.0 j u other u.role f.sits;
        writer_steps = f.writer_steps;
        heard = f.heard;
      }) in
      let new : K x right =
      record { sits = worker_sits; writer_steps = knows.writer_steps; heard = later_none (writes steps) } in
      record {
        steps = steps;
        seating = now;
        settled = h.settled;
        trace = h.trace;
        words = h.words;
        made = omega (arith, room, is_made);
        unmade = λ k above. h.unmade k (omega (arith, above));
        views = λ j u there. elim (at_end views right u j there) [
          | inl e ↦ old j u e
          | inr e ↦ subst (λ (z : ℕ × View). K z.0 z.1) (λ i. (sym e.0 i, e.1 i)) new
        ];
      }

  -- ---- the table at the start

  abbrev alone : SeatPlan
  alone = record { writer = 0; made = 0; seat_of = λ k. 0 }

  first_seat : (j : ℕ) (u : View) → get_elem? (writer_view o ∷ []) j ≡ some u → IsViewOf o [] alone j u
  first_seat zero u e = subst (IsViewOf o [] alone 0) (some-injective (writer_view o) u e)
      (record { sits = (refl, refl, refl, refl); writer_steps = ([], refl); heard = ([], refl) })
  first_seat (suc j) u e = absurd (some-ne-none u (sym e))

  pub opens : (words : List ℕ) → words ≡ initial_words o → IsSettled (initial_state_of o)
      → o.first + o.second ≤ 32
      → Holds o (opening {S = Unit {0}} words [] (writer_view o))
  opens words are settled widths = record {
    steps = [];
    seating = alone;
    settled = settled;
    trace = tt;
    words = subst (λ (ws : List ℕ). IsLaidOut o ws (world_by [])) (sym are) (lays_initial o
        (λ i lt. word_below (o.first + o.second) _ widths (settled.words.first_words i lt).0)
        (λ j lt. word_below (o.first + o.second) _ widths (settled.words.second_words j lt).0));
    made = omega arith;
    unmade = λ k above. refl;
    views = first_seat;
  }
