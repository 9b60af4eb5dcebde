-- The lookups of one pass, before a moment between its deeds and since.
use Rattle.std.proofs.Common.{ℕ, zero, suc, ◌≡◌, ◌+◌, ◌≤◌, All, List, [], ◌∷◌, ◌++◌, length, map, get_or, refl, ap, sym, subst, ◌∙◌, append-nil, arith, length-append}
use Rattle.std.specs.List.{AllPairs}
use Rattle.std.proofs.lemmas.List.{append_cancel_right, get_or_append_left, get_or_at, get_or-append-add}
use Rattle.std.proofs.lemmas.List.Elements.{All-cons, All-head, All-nil, All-tail}
use Rattle.lpm_cells.specs.declared.entry.Entry.{Entry}
use Rattle.lpm_cells.specs.declared.entry.Entry.TheVariants.{Miss, Hop, Group}
use Rattle.lpm_cells.specs.Words.{entry_in}
use Rattle.lpm_trace.specs.declared.step.WriterStep.{WriterStep}
use Rattle.lpm_trace.specs.declared.step.WorkerStep.{WorkerStep}
use Rattle.lpm_trace.specs.declared.step.WorkerStep.TheVariants.{LoadOnline, StoreOnline, LoadQuiescent, StoreQuiescent, StoreOffline, BeginLookup, LoadFirst, LoadSecond, EndLookup, MeetWriter}
use Rattle.lpm_trace.specs.States.{InitialState, TableState, begun_at, state_at}
use Rattle.lpm_trace.specs.Trace.{Worker, Phase, Offline, ComingOnline, Online, LookingUp, ReportingQuiescent, Probe, Unread, InGroup, Answered, FinishedLookup, MayRead, IsBetweenDeeds, worker_by_step, read_first, first_read, second_read, with_answers, worker_by}
use Rattle.lpm_trace.specs.Laws.{ArePlaced, IsLegalAtPlace}
use Rattle.shared_fib.specs.RunningTable.{initial_state}
use Rattle.shared_fib.specs.Laws.{IsFinishedSince, PassesNeverGoBack}
use Rattle.std.proofs.lemmas.Option.{none-some}
use Rattle.shared_fib.proofs.Backwards.{at_place, in_order}
use Rattle.shared_fib.proofs.Lookups.{all_back, all_front}

-- ---- between two deeds no lookup goes on

abbrev IsClear : Phase → List Probe → Type 0
IsClear LookingUp probes = Unit {0}
IsClear phase probes = probes ≡ []

clear_at : (p q : Phase) (probes : List Probe) → p ≡ q → IsClear p probes → IsClear q probes
clear_at p q probes same clear = subst (λ (x : Phase). IsClear x probes) same clear

clear_step : (c : InitialState) (w : TableState) (now : ℕ) (r : Worker) (s : WorkerStep) → MayRead c w r s → IsClear r.phase r.probes
    → IsClear (worker_by_step now r s).phase (worker_by_step now r s).probes
clear_step c w now r (LoadOnline token) may clear = clear_at r.phase Offline r.probes may.0 clear
clear_step c w now r (StoreOnline token) may clear = clear_at r.phase (ComingOnline token) r.probes may clear
clear_step c w now r (LoadQuiescent token) may clear = clear_at r.phase Online r.probes may.0 clear
clear_step c w now r (StoreQuiescent token) may clear = clear_at r.phase (ReportingQuiescent token) r.probes may clear
clear_step c w now r StoreOffline may clear = clear_at r.phase Online r.probes may clear
clear_step c w now r (BeginLookup addrs sequence) may clear = tt
clear_step c w now r (LoadFirst word) may clear = clear_at LookingUp r.phase (first_read now (entry_in word) r.probes) (sym may.0) tt
clear_step c w now r (LoadSecond word) may clear = clear_at LookingUp r.phase (second_read now (entry_in word) r.probes) (sym may.0) tt
clear_step c w now r (EndLookup sequence) may clear = refl
clear_step c w now r (MeetWriter sequence) may clear = clear

clear_by : (c : InitialState) (w_steps : List WriterStep) (steps : List (WorkerStep × ℕ)) → ArePlaced c w_steps steps
    → IsClear (worker_by steps).phase (worker_by steps).probes
clear_by c w_steps [] placed = refl
clear_by c w_steps (s ∷ steps) placed =
    clear_step c (state_at c w_steps s.1) s.1 (worker_by steps) s.0 placed.0 (clear_by c w_steps steps placed.1)

none_goes_on : (p : Phase) (probes : List Probe) → IsBetweenDeeds p → IsClear p probes → probes ≡ []
none_goes_on Offline probes rests clear = clear
none_goes_on Online probes rests clear = clear
none_goes_on p probes rests clear = absurd rests

placed_then : (c : InitialState) (w_steps : List WriterStep) (newer older : List (WorkerStep × ℕ)) → ArePlaced c w_steps (newer ++ older)
    → ArePlaced c w_steps older
placed_then c w_steps [] older placed = placed
placed_then c w_steps (s ∷ newer) older placed = placed_then c w_steps newer older placed.1

-- ---- reads at some places

-- of the places of a worker's steps this is known
module _ (K : ℕ → Type 0) where
  -- each word that a lookup goes on with was read at such a place
  abbrev AreRead : List Probe → Type 0
  AreRead [] = Unit {0}
  AreRead (Unread a ∷ rest) = AreRead rest
  AreRead (InGroup a g f ∷ rest) = K f × AreRead rest
  AreRead (Answered a h f l ∷ rest) = (K f × K l) × AreRead rest

  read_none : (addrs : List ℕ) → AreRead (map Unread addrs)
  read_none [] = tt
  read_none (a ∷ addrs) = read_none addrs

  read_one : (now a : ℕ) (e : Entry) (rest : List Probe) → K now → AreRead rest → AreRead (read_first now a e ∷ rest)
  read_one now a Miss rest here h = ((here, here), h)
  read_one now a (Hop hop depth) rest here h = ((here, here), h)
  read_one now a (Group group) rest here h = (here, h)

  read_firsts : (now : ℕ) (e : Entry) → K now → (probes : List Probe) → AreRead probes → AreRead (first_read now e probes)
  read_firsts now e here [] h = tt
  read_firsts now e here (Unread a ∷ rest) h = read_one now a e rest here h
  read_firsts now e here (InGroup a g f ∷ rest) h = (h.0, read_firsts now e here rest h.1)
  read_firsts now e here (Answered a hop f l ∷ rest) h = (h.0, read_firsts now e here rest h.1)

  read_seconds : (now : ℕ) (e : Entry) → K now → (probes : List Probe) → AreRead probes → AreRead (second_read now e probes)
  read_seconds now e here [] h = tt
  read_seconds now e here (Unread a ∷ rest) h = read_seconds now e here rest h
  read_seconds now e here (InGroup a g f ∷ rest) h = ((h.0, here), h.1)
  read_seconds now e here (Answered a hop f l ∷ rest) h = (h.0, read_seconds now e here rest h.1)

  abbrev IsRead : FinishedLookup → Type 0
  IsRead seen = K seen.first × K seen.last

  -- these lookups are some that were finished before, and others whose words were read at such places
  abbrev AreSince : List FinishedLookup → List FinishedLookup → Type 0
  AreSince old now = (since : List FinishedLookup) × (now ≡ since ++ old) × All IsRead since

  since_more : (x : FinishedLookup) (old now : List FinishedLookup) → IsRead x → AreSince old now → AreSince old (x ∷ now)
  since_more x old now read h = (x ∷ h.0, ap (λ (xs : List FinishedLookup). x ∷ xs) h.1, All-cons IsRead x h.0 read h.2)

  since_answers : (lo hi : ℕ) (old : List FinishedLookup) (probes : List Probe) (now : List FinishedLookup) → AreRead probes → AreSince old now
      → AreSince old (with_answers lo hi probes now)
  since_answers lo hi old [] now read h = h
  since_answers lo hi old (Unread a ∷ rest) now read h = since_answers lo hi old rest now read h
  since_answers lo hi old (InGroup a g f ∷ rest) now read h = since_answers lo hi old rest now read.1 h
  since_answers lo hi old (Answered a hop f l ∷ rest) now read h =
      let x : FinishedLookup = record { addr = a; hop = hop; first = f; last = l; lo = lo; hi = hi } in
      since_answers lo hi old rest (x ∷ now) read.1 (since_more x old now read.0 h)

  abbrev IsSince : List FinishedLookup → Worker → Type 0
  IsSince old r = AreRead r.probes × AreSince old r.finished

  since_step : (old : List FinishedLookup) (now : ℕ) (r : Worker) (s : WorkerStep) → K now → IsSince old r → IsSince old (worker_by_step now r s)
  since_step old now r (BeginLookup addrs sequence) here h = (read_none addrs, h.1)
  since_step old now r (LoadFirst word) here h = (read_firsts now (entry_in word) here r.probes h.0, h.1)
  since_step old now r (LoadSecond word) here h = (read_seconds now (entry_in word) here r.probes h.0, h.1)
  since_step old now r (EndLookup sequence) here h = (tt, since_answers r.lo (begun_at sequence) old r.probes r.finished h.0 h.1)
  since_step old now r s here h = h

  since_steps : (older newer : List (WorkerStep × ℕ)) → (worker_by older).probes ≡ [] → All (λ s. K s.1) newer
      → IsSince (worker_by older).finished (worker_by (newer ++ older))
  since_steps older [] none all =
      (subst AreRead (sym none) tt, ([], refl, All-nil IsRead))
  since_steps older (s ∷ newer) none all =
      since_step (worker_by older).finished s.1 (worker_by (newer ++ older)) s.0 (All-head (λ x. K x.1) s newer all)
      (since_steps older newer none (All-tail (λ x. K x.1) s newer all))

  -- those of all the steps
  all_read : (steps : List (WorkerStep × ℕ)) → All (λ s. K s.1) steps → All IsRead (worker_by steps).finished
  all_read steps all =
      let h = (since_steps [] steps refl all).1 in
      subst (λ (l : List (WorkerStep × ℕ)). All IsRead (worker_by l).finished) (append-nil steps)
      (subst (All IsRead) (sym (h.1 ∙ append-nil h.0)) h.2)

-- ---- places that never fall

abbrev Rising : List (WorkerStep × ℕ) → Type 0
Rising steps = AllPairs (λ later earlier. earlier.1 ≤ later.1) steps

module _ (newer rest : List (WorkerStep × ℕ)) (t : WorkerStep × ℕ) (rising : Rising (newer ++ t ∷ rest)) where
  places_since : All (λ s. t.1 ≤ s.1) newer
  places_since k d low =
      let ys : List (WorkerStep × ℕ) = newer ++ t ∷ rest in
      let n : ℕ = length newer in
      let pair = rising k n d low (omega (arith, length-append newer (t ∷ rest))) in
      subst (λ (x : WorkerStep × ℕ). t.1 ≤ x.1) (get_or_append_left newer (t ∷ rest) d k low)
      (subst (λ (x : WorkerStep × ℕ). x.1 ≤ (get_or ys k d).1) (get_or_at newer t rest d n refl) pair)

  places_then : All (λ s. s.1 ≤ t.1) (t ∷ rest)
  places_then zero d low = omega arith
  places_then (suc k) d low =
      let ys : List (WorkerStep × ℕ) = newer ++ t ∷ rest in
      let n : ℕ = length newer in
      let pair = rising n (n + suc k) d (omega arith) (omega (arith, low, length-append newer (t ∷ rest))) in
      subst (λ (x : WorkerStep × ℕ). x.1 ≤ t.1) (get_or-append-add newer (t ∷ rest) (suc k) d)
      (subst (λ (x : WorkerStep × ℕ). (get_or ys (n + suc k) d).1 ≤ x.1) (get_or_at newer t rest d n refl) pair)

-- ---- one pass

-- the earlier lookup read its last word before the later one read its first
apart : (c : InitialState) (w_steps : List WriterStep) (newer older : List (WorkerStep × ℕ)) (earlier later : FinishedLookup)
    → Rising (newer ++ older) → ArePlaced c w_steps (newer ++ older) → IsFinishedSince newer older earlier later
    → earlier.last ≤ later.first
apart c w_steps newer [] earlier later rising placed h = absurd (none-some earlier h.before.1)
apart c w_steps newer (t ∷ rest) earlier later rising placed h =
    let older : List (WorkerStep × ℕ) = t ∷ rest in
    let b : ℕ = t.1 in
    let none = none_goes_on (worker_by older).phase (worker_by older).probes h.rests
    (clear_by c w_steps older (placed_then c w_steps newer older placed)) in
    let Since : ℕ → Type 0 = λ n. b ≤ n in
    let Until : ℕ → Type 0 = λ n. n ≤ b in
    let since = (since_steps Since older newer none (places_since newer rest t rising)).1 in
    let same : since.0 ≡ h.since = append_cancel_right since.0 h.since (worker_by older).finished (sym since.1 ∙ h.split) in
    let first = at_place (IsRead Since) h.since h.after.0 later h.after.1 (subst (All (IsRead Since)) same since.2) in
    let last = at_place (IsRead Until) (worker_by older).finished h.before.0 earlier h.before.1
    (all_read Until older (places_then newer rest t rising)) in
    omega (arith, first.0, last.1)

pub passes_never_go_back : PassesNeverGoBack
passes_never_go_back p newer older earlier later history split h same =
    let c : InitialState = initial_state p.table in
    let rising : Rising (newer ++ older) = subst Rising split history.rising in
    let placed : ArePlaced c p.writer_steps (newer ++ older) = subst (ArePlaced c p.writer_steps) split history.placed in
    let legal : All (IsLegalAtPlace c p.writer_steps) (h.since ++ (worker_by older).finished) =
    subst (All (IsLegalAtPlace c p.writer_steps)) (ap (λ (steps : List (WorkerStep × ℕ)). (worker_by steps).finished) split ∙ h.split) history.legal in
    let old = at_place (IsLegalAtPlace c p.writer_steps) (worker_by older).finished h.before.0 earlier h.before.1
    (all_back (IsLegalAtPlace c p.writer_steps) h.since (worker_by older).finished legal) in
    let new = at_place (IsLegalAtPlace c p.writer_steps) h.since h.after.0 later h.after.1
    (all_front (IsLegalAtPlace c p.writer_steps) h.since (worker_by older).finished legal) in
    in_order c p.writer_steps earlier later old new (apart c p.writer_steps newer older earlier later rising placed h) same
