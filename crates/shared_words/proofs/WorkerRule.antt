-- A step of a worker keeps the rule, and the worker's view gains the step.
use Rattle.std.proofs.Common.{◌≡◌, ◌≢◌, ℕ, ◌<◌, ◌≤◌, cond, Bool, All, List, [], ◌∷◌, length, slice_index, slice_set, refl, sym, ap, subst, ◌∙◌, eq-eqb, ne_eqb, arith, get_or-set_same, get_or-set_other, length-set}
use Rattle.std.proofs.lemmas.List.{set-get_or}
use Rattle.std.specs.List.{AllPairs}
use mathlib.Core.Option.{some}
use lib.ListN.{get_elem?}
use Rattle.atomic_table.specs.Table.{State, Me, keeps, Allows}
use Rattle.lpm_cells.specs.Words.{IsWords}
use Rattle.lpm_trace.specs.declared.step.WriterStep.{WriterStep}
use Rattle.lpm_trace.specs.declared.step.WorkerStep.{WorkerStep}
use Rattle.lpm_trace.specs.declared.step.TraceStep.{TraceStep}
use Rattle.lpm_trace.specs.declared.step.TraceStep.TheVariants.{Worker as ByWorker}
use Rattle.lpm_trace.specs.States.{IsSettled, state_after}
use Rattle.lpm_trace.specs.Trace.{Worker as WorkerState, worker_by_step, MayRead, World, after, IsTrace, MayCome, writes, own_steps, worker_by}
use Rattle.lpm_trace.specs.Writer.{IsWritten}
use Rattle.lpm_trace.specs.Laws.{IsLegalAtPlace, ArePlaced}
use Rattle.lpm_trace.proofs.Versions.{with_at_case}
use Rattle.lpm_trace.proofs.Traces.{state_is}
use Rattle.lpm_trace.proofs.Promises.{writer_is_alone, words_are_entries, own_lookups_are_legal, own_steps_are_placed, places_never_fall}
use Rattle.shared_words.specs.declared.view.Role.{Role}
use Rattle.shared_words.specs.declared.view.Role.TheVariants.{Writer, Worker, Note}
use Rattle.shared_words.specs.declared.view.View.{View}
use Rattle.shared_words.specs.Layout.{InitialData, initial_state_of, half, first_at, second_at, sequence_at, token_at, counter_at, IsLaidOut}
use Rattle.shared_words.specs.Rule.{SeatPlan, Sits, IsViewOf, Holds}
use Rattle.shared_words.specs.Seats.{IsSound, Gains, WorkerGains}
use Rattle.shared_words.proofs.WordPlaces.{lays_same}
use Rattle.shared_words.proofs.WriterRule.{seats_set}

-- the step leaves the worker's counter
abbrev pub IsQuiet : WorkerStep → Type 0
IsQuiet r = (now : ℕ) (w : WorkerState) → (worker_by_step now w r).counter ≡ w.counter

-- the step stores this in the worker's counter
abbrev pub Stores : WorkerStep → ℕ → Type 0
Stores r x = (now : ℕ) (w : WorkerState) → (worker_by_step now w r).counter ≡ x

-- the view with the step
abbrev pub gained : View → WorkerStep → List WriterStep → View
gained v r seen = record v { own_steps = (r, length seen) ∷ v.own_steps; writer_steps = seen }

own_more : (k : ℕ) (r : WorkerStep) (steps : List TraceStep)
    → own_steps k (ByWorker k r ∷ steps) ≡ (r, length (writes steps)) ∷ own_steps k steps
own_more k r steps =
    ap (λ (b : Bool). cond b ((r, length (writes steps)) ∷ own_steps k steps) (own_steps k steps)) (eq-eqb k k refl)

own_same : (k j : ℕ) (r : WorkerStep) (steps : List TraceStep) → k ≢ j
    → own_steps k (ByWorker j r ∷ steps) ≡ own_steps k steps
own_same k j r steps ne =
    ap (λ (b : Bool). cond b ((r, length (writes steps)) ∷ own_steps k steps) (own_steps k steps)) (ne_eqb k j ne)

module _ (o : InitialData) where
  abbrev pub St : Type 0
  St = State (Unit {0}) View

  -- ---- the words

  -- a load leaves the words
  loaded : (steps : List TraceStep) (k : ℕ) (r : WorkerStep) (words : List ℕ) → IsQuiet r
      → IsLaidOut o words (after (initial_state_of o) steps)
      → IsLaidOut o words (after (initial_state_of o) (ByWorker k r ∷ steps))
  loaded steps k r words quiet laid =
      let w : World = after (initial_state_of o) steps in
      lays_same o words w laid (after (initial_state_of o) (ByWorker k r ∷ steps)) refl refl refl
      (λ j. with_at_case (λ (x : WorkerState). x.counter ≡ (w.workers j).counter)
      w.workers k (worker_by_step w.state.clock (w.workers k) r) j
      (λ e. quiet w.state.clock (w.workers k) ∙ ap (λ (i : ℕ). (w.workers i).counter) (sym e))
      (λ ne. refl))

  -- a store changes the worker's counter alone
  stored : (steps : List TraceStep) (k x : ℕ) (r : WorkerStep) (words : List ℕ) → k < o.workers → Stores r x
      → IsLaidOut o words (after (initial_state_of o) steps)
      → IsLaidOut o (slice_set words (counter_at o k) x) (after (initial_state_of o) (ByWorker k r ∷ steps))
  stored steps k x r words inside stores laid =
      let w : World = after (initial_state_of o) steps in
      let at : ℕ = counter_at o k in
      record {
        count = length-set words at x ∙ laid.count;
        firsts_len = laid.firsts_len;
        seconds_len = laid.seconds_len;
        firsts = λ i lt. ap (half i) (get_or-set_other words at (first_at i) x 0 (omega (arith, lt)))
            ∙ laid.firsts i lt;
        seconds = λ j lt. ap (half j) (get_or-set_other words at (second_at o j) x 0 (omega (arith, lt)))
            ∙ laid.seconds j lt;
        sequence = get_or-set_other words at sequence_at x 0 (omega arith) ∙ laid.sequence;
        token = get_or-set_other words at token_at x 0 (omega arith) ∙ laid.token;
        counters = λ j lt. with_at_case
            (λ (y : WorkerState). slice_index (slice_set words at x) (counter_at o j) ≡ y.counter)
            w.workers k (worker_by_step w.state.clock (w.workers k) r) j
            (λ e. ap (λ (i : ℕ). slice_index (slice_set words at x) (counter_at o i)) e
            ∙ get_or-set_same words at x 0 (omega (arith, laid.count, inside))
            ∙ sym (stores w.state.clock (w.workers k)))
            (λ ne. get_or-set_other words at (counter_at o j) x 0 (omega (arith, ne)) ∙ laid.counters j lt);
      }

  -- ---- the views

  -- another seat, after a step of worker k at the seat `id`
  bystander : (steps : List TraceStep) (seating : SeatPlan) (k id : ℕ) (r : WorkerStep)
      → id ≡ seating.seat_of k → (j : ℕ) (u : View) → j ≢ id → (role : Role)
      → Sits o steps seating j u role → Sits o (ByWorker k r ∷ steps) seating j u role
  bystander steps seating k id r mine j u other Writer h = h
  bystander steps seating k id r mine j u other (Worker l) h = (
    h.0,
    h.1,
    h.2,
    h.3 ∙ sym (own_same l k r steps (λ same. other (h.0 ∙ ap seating.seat_of same ∙ sym mine))),
  )
  bystander steps seating k id r mine j u other Note h = tt

  -- what the rule says of a worker's seat
  pub sits_of : (s : St) (h : Holds o s) (id k : ℕ) (v : View) → get_elem? s.views id ≡ some v
      → v.role ≡ Worker k → Sits o h.steps h.seating id v (Worker k)
  sits_of s h id k v at is = subst (Sits o h.steps h.seating id v) is (h.views id v at).sits

  -- what may be read after the worker's own steps may come next
  may_come : (s : St) (h : Holds o s) (id k : ℕ) (v : View) (r : WorkerStep) → get_elem? s.views id ≡ some v
      → v.role ≡ Worker k → MayRead (initial_state_of o) (after (initial_state_of o) h.steps).state (worker_by v.own_steps) r
      → MayCome (initial_state_of o) (after (initial_state_of o) h.steps) (ByWorker k r)
  may_come s h id k v r at is may =
      let mine = sits_of s h id k v at is in
      let state = (own_lookups_are_legal (initial_state_of o) h.steps k h.settled h.trace).0 in (
        (let l = mine.2 in omega (arith, l, h.made)),
        subst (λ (x : WorkerState). MayRead (initial_state_of o) (after (initial_state_of o) h.steps).state x r)
            (sym (state ∙ ap worker_by (sym mine.3))) may,
      )

  -- a step of a worker keeps the rule
  worker_step : (s : St) (h : Holds o s) (id k : ℕ) (v : View) (r : WorkerStep) (words : List ℕ)
      → get_elem? s.views id ≡ some v → v.role ≡ Worker k
      → MayRead (initial_state_of o) (after (initial_state_of o) h.steps).state (worker_by v.own_steps) r
      → IsLaidOut o words (after (initial_state_of o) (ByWorker k r ∷ h.steps))
      → Holds o record {
        words = words;
        homes = s.homes;
        views = slice_set s.views id (gained v r (writes h.steps));
      }
  worker_step s h id k v r words at is may laid =
      let steps = h.steps in
      let seating = h.seating in
      let w : View = gained v r (writes steps) in
      let mine = sits_of s h id k v at is in
      let known : IsViewOf o steps seating id v = h.views id v at in
      let new : IsViewOf o (ByWorker k r ∷ steps) seating id w = record {
        sits = subst (Sits o (ByWorker k r ∷ steps) seating id w) (sym is) (
          mine.0,
          mine.1,
          mine.2,
          ap (λ (xs : List (WorkerStep × ℕ)). (r, length (writes steps)) ∷ xs) mine.3
              ∙ sym (own_more k r steps),
        );
        writer_steps = ([], refl);
        heard = known.heard;
      } in
      record {
        steps = ByWorker k r ∷ steps;
        seating = seating;
        settled = h.settled;
        trace = (may_come s h id k v r at is may, h.trace);
        words = laid;
        made = h.made;
        unmade = λ j above. own_same j k r steps
            (λ same. let l = mine.2 in absurd (omega (arith, l, above, same)))
            ∙ h.unmade j above;
        views = seats_set (IsViewOf o (ByWorker k r ∷ steps) seating) s.views id w new (λ j u other there.
            let old : IsViewOf o steps seating j u = h.views j u there in record {
              sits = bystander steps seating k id r mine.0 j u other u.role old.sits;
              writer_steps = old.writer_steps;
              heard = old.heard;
            });
      }

  -- ---- what the seat learns

  sound : (v : View) (k : ℕ) (steps : List TraceStep) → IsSettled (initial_state_of o) → IsTrace (initial_state_of o) steps
      → v.initial ≡ o → v.writer_steps ≡ writes steps → v.own_steps ≡ own_steps k steps → IsSound v
  sound v k steps settled trace initial seen mine =
      let places = places_never_fall k steps in
      let words : IsWords o.first o.second (state_after (initial_state_of o) (writes steps)).words = subst
      (λ t. IsWords o.first o.second t.words) (state_is (initial_state_of o) steps)
      (words_are_entries (initial_state_of o) steps settled trace) in
      let known : InitialData × List WriterStep → Type 0 = λ z. IsWritten (initial_state_of z.0) z.1
      × IsWords z.0.first z.0.second (state_after (initial_state_of z.0) z.1).words in
      let legal : InitialData × (List WriterStep × List (WorkerStep × ℕ)) → Type 0 = λ z.
      All (IsLegalAtPlace (initial_state_of z.0) z.1.0) (worker_by z.1.1).finished in
      let placed : InitialData × (List WriterStep × List (WorkerStep × ℕ)) → Type 0 = λ z.
      ArePlaced (initial_state_of z.0) z.1.0 z.1.1 in
      let both = subst known (λ i. (sym initial i, sym seen i))
      (writer_is_alone (initial_state_of o) steps trace, words) in
      record {
        written = both.0;
        words = both.1;
        rising = subst (λ (xs : List (WorkerStep × ℕ)). AllPairs (λ later earlier. earlier.1 ≤ later.1) xs)
            (sym mine) places.0;
        within = subst
            (λ (z : List WriterStep × List (WorkerStep × ℕ)). All (λ step. step.1 ≤ length z.0) z.1)
            (λ i. (sym seen i, sym mine i)) places.1;
        placed = subst placed (λ i. (sym initial i, (sym seen i, sym mine i)))
            (own_steps_are_placed (initial_state_of o) steps k trace);
        legal = subst legal (λ i. (sym initial i, (sym seen i, sym mine i)))
            (own_lookups_are_legal (initial_state_of o) steps k settled trace).1;
      }

  gained_is : (s : St) (h : Holds o s) (id k : ℕ) (v : View) (r : WorkerStep) → get_elem? s.views id ≡ some v
      → v.role ≡ Worker k → MayRead (initial_state_of o) (after (initial_state_of o) h.steps).state (worker_by v.own_steps) r
      → Gains r v (gained v r (writes h.steps)) × IsSound (gained v r (writes h.steps))
  gained_is s h id k v r at is may =
      let steps = h.steps in
      let mine = sits_of s h id k v at is in
      let known : IsViewOf o steps h.seating id v = h.views id v at in (
        record {
          writer_steps = writes steps;
          view = refl;
          later = known.writer_steps;
          heard = known.heard;
        },
        sound (gained v r (writes steps)) k (ByWorker k r ∷ steps) h.settled
            (may_come s h id k v r at is may, h.trace) mine.1 refl
            (ap (λ (xs : List (WorkerStep × ℕ)). (r, length (writes steps)) ∷ xs) mine.3
            ∙ sym (own_more k r steps)),
      )

  -- ---- the steps

  -- a worker's view begins as the table does
  pub initial_is : (s : St) (h : Holds o s) (id k : ℕ) (v : View) → get_elem? s.views id ≡ some v
      → v.role ≡ Worker k → v.initial ≡ o
  initial_is s h id k v at is = (sits_of s h id k v at is).1

  -- a load, which may come next and tells what else is known of the word
  pub load_allowed : (of : ℕ → WorkerStep) (also : ℕ → Type 0) (slots id k i : ℕ) (me : Me (Unit {0}) View)
      → me.0.role ≡ Worker k → ((n : ℕ) → IsQuiet (of n))
      → ((s : St) (h : Holds o s) → me.0.initial ≡ o
      → MayRead (initial_state_of o) (after (initial_state_of o) h.steps).state (worker_by me.0.own_steps)
      (of (slice_index s.words i))
      × also (slice_index s.words i))
      → Allows (Holds o) slots id me i (λ n. n) (λ n me'. WorkerGains (of n) me me' × also n)
  load_allowed of also slots id k i me is quiet reads s h len at range =
      let n : ℕ = slice_index s.words i in
      let r : WorkerStep = of n in
      let read = reads s h (initial_is s h id k me.0 at is) in
      let w : View = gained me.0 r (writes h.steps) in
      let kept : Holds o record { words = s.words; homes = s.homes; views = slice_set s.views id w } =
      worker_step s h id k me.0 r s.words at is read.0 (loaded h.steps k r s.words (quiet n) h.words) in (
        w,
        keeps,
        tt,
        subst
            (λ (words : List ℕ). Holds o record { words = words; homes = s.homes; views = slice_set s.views id w })
            (sym (set-get_or s.words i 0)) kept,
        (
          (
            refl,
            (gained_is s h id k me.0 r at is read.0).0,
            (gained_is s h id k me.0 r at is read.0).1,
          ),
          read.1,
        ),
      )

  -- a load that tells no more
  pub plain : (of : ℕ → WorkerStep) (slots id i : ℕ) (me : Me (Unit {0}) View)
      → Allows (Holds o) slots id me i (λ n. n) (λ n me'. WorkerGains (of n) me me' × Unit {0})
      → Allows (Holds o) slots id me i (λ n. n) (λ n me'. WorkerGains (of n) me me')
  plain of slots id i me allowed s h len at range =
      let t = allowed s h len at range in (t.0, t.1, t.2, t.3, t.4.0)

  -- a store into the worker's counter
  pub store_allowed : (r : WorkerStep) (x slots id k : ℕ) (me : Me (Unit {0}) View)
      → me.0.role ≡ Worker k → Stores r x
      → ((s : St) (h : Holds o s)
      → MayRead (initial_state_of o) (after (initial_state_of o) h.steps).state (worker_by me.0.own_steps) r)
      → Allows (Holds o) slots id me (counter_at o k) (λ _. x) (λ _ me'. WorkerGains r me me')
  store_allowed r x slots id k me is stores reads s h len at range =
      let read = reads s h in
      let mine = sits_of s h id k me.0 at is in
      let inside : k < o.workers = let l = mine.2 in omega (arith, l, h.made) in
      let w : View = gained me.0 r (writes h.steps) in (
        w,
        keeps,
        tt,
        worker_step s h id k me.0 r (slice_set s.words (counter_at o k) x) at is read
            (stored h.steps k x r s.words inside stores h.words),
        (refl, (gained_is s h id k me.0 r at is read).0, (gained_is s h id k me.0 r at is read).1),
      )
