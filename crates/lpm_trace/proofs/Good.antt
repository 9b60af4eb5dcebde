-- What holds after each step of a trace. A t a lo x: when the writer had made t steps, the words
-- answered x to the address a, and lo updates were done. Hi t hi: then hi updates or fewer were begun.
use Rattle.std.proofs.Common.{◌≡◌, ℕ, ◌+◌, ◌*◌, ◌/◌, ◌%◌, ◌^◌, ◌<◌, ◌≤◌, ◌⊎◌, List, [], slice_index, Option, arith, inl, inr, ◌∷◌, All, map, refl, sym, ap, subst}
use Rattle.std.specs.Bool.{⊤}
use Rattle.lpm_cells.specs.declared.entry.Entry.TheVariants.{Group}
use Rattle.lpm_cells.specs.Words.{entry_in, hop_in, last_entry}
use Rattle.lpm_trace.specs.States.{InitialState, TableState, Status, Unused, Linked, Retired, addresses, answer, updates_done_in, updates_begun_in, first_entry, begun_at, done_at}
use Rattle.lpm_trace.specs.Trace.{Worker, Phase, Offline, ComingOnline, Online, LookingUp, ReportingQuiescent, Probe, Unread, InGroup, Answered, FinishedLookup, read_first, first_read, second_read, with_answers, worker_by_step, IsNextFirst, IsNextSecond, AreAnswered, MayRead}
use Rattle.lpm_trace.proofs.Versions.{Each, each_map}
use Rattle.std.proofs.lemmas.List.Elements.{All-head, All-tail}
use Rattle.lpm_cells.specs.declared.entry.Entry.{Entry}
use Rattle.lpm_trace.specs.declared.step.WorkerStep.{WorkerStep}
use Rattle.lpm_trace.specs.declared.step.WorkerStep.TheVariants.{LoadOnline, StoreOnline, LoadQuiescent, StoreQuiescent, StoreOffline, BeginLookup, LoadFirst, LoadSecond, EndLookup, MeetWriter}

abbrev pub Told : Type 1
Told = ℕ → ℕ → ℕ → Option ℕ → Type 0

-- a reader interval runs
abbrev pub IsRunning : Phase → Type 0
IsRunning Offline = ⊥
IsRunning (ComingOnline loaded) = ⊥
IsRunning Online = ⊤
IsRunning LookingUp = ⊤
IsRunning (ReportingQuiescent loaded) = ⊤

-- a token that was loaded and is not yet stored is one that was there
abbrev pub LoadedAs : ℕ → ℕ → Phase → Type 0
LoadedAs token counter Offline = ⊤
LoadedAs token counter (ComingOnline loaded) = (0 < loaded) × (loaded ≤ token)
LoadedAs token counter Online = 0 < counter
LoadedAs token counter LookingUp = 0 < counter
LoadedAs token counter (ReportingQuiescent loaded) = (0 < counter) × (0 < loaded) × (loaded ≤ token)

-- what the worker may yet store is below the token
abbrev pub IsStaleAs : ℕ → Phase → Type 0
IsStaleAs token (ReportingQuiescent loaded) = loaded < token
IsStaleAs token phase = ⊤

-- the worker holds the group back: it waits under a token that no check has passed, nor passed this
-- worker
abbrev pub HeldAs : TableState → ℕ → ℕ → Phase → Status → Type 0
HeldAs w k counter phase Unused = ⊥
HeldAs w k counter phase (Linked block) = ⊥
HeldAs w k counter phase (Retired token) = (counter < token) × IsStaleAs token phase × (w.passed < token) × (token ≤ w.scan.token → w.scan.next ≤ k)

abbrev pub IdleAs : List Probe → Phase → Type 0
IdleAs ps LookingUp = ⊤
IdleAs ps phase = ps ≡ []

abbrev pub LowAs : ℕ → ℕ → Phase → Type 0
LowAs lo updates_done_in LookingUp = lo ≤ updates_done_in
LowAs lo updates_done_in phase = ⊤

-- where the second word of an address stands in a group
abbrev pub second_place : InitialState → ℕ → ℕ → ℕ
second_place c a g = g * 2 ^ c.second + a % 2 ^ c.second

-- a group that was read in a first word: it stands there still, or it was unlinked since, and its
-- words are those of that time
pub record HalfOk (c : InitialState) (A : Told) (w : TableState) (since lo : ℕ) (phase : Phase) (a g f : ℕ) : Type 0 where
  pub inside : a < addresses c
  pub running : IsRunning phase
  pub from : since ≤ f
  pub came : f ≤ w.clock
  pub low : lo ≤ updates_done_in w
  pub value : (first_entry w.words (a / 2 ^ c.second) ≡ Group g)
      ⊎ ((f < w.unlinked g) × ((t : ℕ) × (f ≤ t) × (t ≤ w.clock) × A t a lo (hop_in (entry_in (slice_index w.words.seconds (second_place c a g))))))

-- the same by another telling, and of another state, where what was read in it is known
pub half_by : (c : InitialState) (A B : Told) (w w' : TableState) (since lo : ℕ) (phase : Phase) (a g f : ℕ) → w.clock ≤ w'.clock → updates_done_in w ≤ updates_done_in w' → HalfOk c A w since lo phase a g f
    → (first_entry w'.words (a / 2 ^ c.second) ≡ Group g)
    ⊎ ((f < w'.unlinked g) × ((t : ℕ) × (f ≤ t) × (t ≤ w'.clock) × B t a lo (hop_in (entry_in (slice_index w'.words.seconds (second_place c a g))))))
    → HalfOk c B w' since lo phase a g f
half_by c A B w w' since lo phase a g f clock done' half value = record {
  inside = half.inside;
  running = half.running;
  from = half.from;
  came = omega (arith, clock, half.came);
  low = omega (arith, done', half.low);
  value = value;
}

abbrev pub ProbeOk : InitialState → Told → TableState → ℕ → ℕ → Phase → Probe → Type 0
ProbeOk c A w since lo phase (Unread a) = a < addresses c
ProbeOk c A w since lo phase (InGroup a g f) = HalfOk c A w since lo phase a g f
ProbeOk c A w since lo phase (Answered a h f l) = (a < addresses c) × (l ≤ w.clock) × ((t : ℕ) × (f ≤ t) × (t ≤ l) × A t a lo h)

abbrev pub FinishedOk : InitialState → Told → (ℕ → ℕ → Type 0) → ℕ → FinishedLookup → Type 0
FinishedOk c A Hi clock s = (s.addr < addresses c) × (s.last ≤ clock) × ((t : ℕ) × (s.first ≤ t) × (t ≤ s.last) × A t s.addr s.lo s.hop × Hi t s.hi)

pub record WorkerOk (c : InitialState) (A : Told) (Hi : ℕ → ℕ → Type 0) (w : TableState) (k : ℕ) (r : Worker) : Type 0 where
  pub inside : IsRunning r.phase → k < c.workers
  pub counter : r.counter ≤ w.token
  pub loaded : LoadedAs w.token r.counter r.phase
  pub since : r.since ≤ w.clock
  pub grace : IsRunning r.phase → (g : ℕ) → r.since < w.unlinked g → HeldAs w k r.counter r.phase (w.groups g)
  pub idle : IdleAs r.probes r.phase
  pub low : LowAs r.lo (updates_done_in w) r.phase
  pub probes : Each (ProbeOk c A w r.since r.lo r.phase) r.probes
  pub finished : Each (FinishedOk c A Hi w.clock) r.finished

pub record Good (c : InitialState) (A : Told) (Hi : ℕ → ℕ → Type 0) (w : TableState) (workers : ℕ → Worker) : Type 0 where
  pub token : 0 < w.token
  pub passed : w.passed ≤ w.token
  pub scan : w.scan.token ≤ w.token
  pub unlinked : (g : ℕ) → w.unlinked g ≤ w.clock
  pub linked : (i g : ℕ) → first_entry w.words i ≡ Group g → w.groups g ≡ Linked i
  pub workers_ok : (k : ℕ) → WorkerOk c A Hi w k (workers k)
  pub now : (a lo : ℕ) → a < addresses c → lo ≤ updates_done_in w → A w.clock a lo (answer c w.words a)
  pub below : (t : ℕ) → t ≤ w.clock → Hi t (updates_begun_in w)

pub loaded_later : (token token' counter : ℕ) → token ≤ token' → (p : Phase) → LoadedAs token counter p → LoadedAs token' counter p
loaded_later token token' counter le Offline h = tt
loaded_later token token' counter le (ComingOnline loaded) h = (h.0, omega (arith, le, h.1))
loaded_later token token' counter le (ReportingQuiescent loaded) h = (h.0, h.1, omega (arith, le, h.2))
loaded_later token token' counter le p h = h

pub low_later : (lo n n' : ℕ) → n ≤ n' → (p : Phase) → LowAs lo n p → LowAs lo n' p
low_later lo n n' le LookingUp h = omega (arith, le, h)
low_later lo n n' le p h = tt

pub running_counter : (token counter : ℕ) (p : Phase) → IsRunning p → LoadedAs token counter p → 0 < counter
running_counter token counter Offline run h = absurd run
running_counter token counter (ComingOnline loaded) run h = absurd run
running_counter token counter (ReportingQuiescent loaded) run h = h.0
running_counter token counter p run h = h

-- a group is held whatever the worker's phase, as long as what it may store is stale
pub held_phase : (w : TableState) (k counter : ℕ) (p p' : Phase) → ((token : ℕ) → IsStaleAs token p → IsStaleAs token p') → (s : Status) → HeldAs w k counter p s → HeldAs w k counter p' s
held_phase w k counter p p' f (Retired token) h = (h.0, f token h.1, h.2, h.3)
held_phase w k counter p p' f s h = h

pub finished_later : (c : InitialState) (A : Told) (Hi : ℕ → ℕ → Type 0) (n n' : ℕ) → n ≤ n' → (xs : List FinishedLookup) → Each (FinishedOk c A Hi n) xs → Each (FinishedOk c A Hi n') xs
finished_later c A Hi n n' le = each_map (FinishedOk c A Hi n) (FinishedOk c A Hi n') (λ s h. (h.0, omega (arith, le, h.1), h.2))

pub probe_stays : (c : InitialState) (A : Told) (w w' : TableState) (since lo : ℕ) (phase : Phase) → w.clock ≤ w'.clock
    → ((a g f : ℕ) → HalfOk c A w since lo phase a g f → HalfOk c A w' since lo phase a g f)
    → (p : Probe) → ProbeOk c A w since lo phase p → ProbeOk c A w' since lo phase p
probe_stays c A w w' since lo phase le half (Unread a) h = h
probe_stays c A w w' since lo phase le half (InGroup a g f) h = half a g f h
probe_stays c A w w' since lo phase le half (Answered a x f l) h = (h.0, omega (arith, le, h.1), h.2)

-- the writer's step leaves the worker as it was
pub worker_stays : (c : InitialState) (A : Told) (Hi : ℕ → ℕ → Type 0) (w w' : TableState) (k : ℕ) (r : Worker)
    → w.clock ≤ w'.clock → w.token ≤ w'.token → updates_done_in w ≤ updates_done_in w'
    → (IsRunning r.phase → (g : ℕ) → r.since < w'.unlinked g → HeldAs w' k r.counter r.phase (w'.groups g))
    → ((a g f : ℕ) → HalfOk c A w r.since r.lo r.phase a g f → HalfOk c A w' r.since r.lo r.phase a g f)
    → WorkerOk c A Hi w k r → WorkerOk c A Hi w' k r
worker_stays c A Hi w w' k r clock token done' grace half ok = record {
  inside = ok.inside;
  counter = omega (arith, token, ok.counter);
  loaded = loaded_later w.token w'.token r.counter token r.phase ok.loaded;
  since = omega (arith, clock, ok.since);
  grace = grace;
  idle = ok.idle;
  low = low_later r.lo (updates_done_in w) (updates_done_in w') done' r.phase ok.low;
  probes = each_map (ProbeOk c A w r.since r.lo r.phase) (ProbeOk c A w' r.since r.lo r.phase) (probe_stays c A w w' r.since r.lo r.phase clock half) r.probes ok.probes;
  finished = finished_later c A Hi w.clock w'.clock clock r.finished ok.finished;
}

-- A worker's steps keep what holds of it, and a lookup that ends is answered by what the words
-- answered at a moment of its span.

module _ (c : InitialState) (A : Told) (Hi : ℕ → ℕ → Type 0) (w : TableState) (now : (a lo : ℕ) → a < addresses c → lo ≤ updates_done_in w → A w.clock a lo (answer c w.words a)) (since lo : ℕ) (low : lo ≤ updates_done_in w) where
  new_probe : (phase : Phase) → IsRunning phase → since ≤ w.clock → (a : ℕ) → a < addresses c → (e : Entry) → e ≡ first_entry w.words (a / 2 ^ c.second) → ProbeOk c A w since lo phase (read_first w.clock a e)
  new_probe phase run le a inside (Group group) is = record { inside = inside; running = run; from = le; came = omega arith; low = low; value = inl (sym is) }
  new_probe phase run le a inside e is = (inside, omega arith, (w.clock, omega arith, omega arith, subst (λ x. A w.clock a lo (hop_in (last_entry c.second w.words.seconds (a % 2 ^ c.second) x))) (sym is) (now a lo inside low)))

  first_ok : (phase : Phase) → IsRunning phase → since ≤ w.clock → (word : ℕ) (ps : List Probe) → IsNextFirst c w word ps → Each (ProbeOk c A w since lo phase) ps
      → Each (ProbeOk c A w since lo phase) (first_read w.clock (entry_in word) ps)
  first_ok phase run le word [] may h = h
  first_ok phase run le word (Unread a ∷ rest) may h = (new_probe phase run le a h.0 (entry_in word) (ap entry_in may), h.1)
  first_ok phase run le word (InGroup a g f ∷ rest) may h = (h.0, first_ok phase run le word rest may h.1)
  first_ok phase run le word (Answered a x f l ∷ rest) may h = (h.0, first_ok phase run le word rest may h.1)

  whole_probe : (phase : Phase) (a g f word : ℕ) → word ≡ slice_index w.words.seconds (second_place c a g) → HalfOk c A w since lo phase a g f → ProbeOk c A w since lo phase (Answered a (hop_in (entry_in word)) f w.clock)
  whole_probe phase a g f word is half = (
    half.inside,
    omega arith,
    elim half.value [
      | inl h ↦ (w.clock, half.came, omega arith, subst (λ x. A w.clock a lo (hop_in (entry_in x))) (sym is) (subst (λ x. A w.clock a lo (hop_in (last_entry c.second w.words.seconds (a % 2 ^ c.second) x))) h (now a lo half.inside low)))
      | inr h ↦ (h.1.0, h.1.1, h.1.2, subst (λ x. A h.1.0 a lo (hop_in (entry_in x))) (sym is) h.1.3)
    ],
  )

  second_ok : (phase : Phase) (word : ℕ) (ps : List Probe) → IsNextSecond c w word ps → Each (ProbeOk c A w since lo phase) ps
      → Each (ProbeOk c A w since lo phase) (second_read w.clock (entry_in word) ps)
  second_ok phase word [] may h = h
  second_ok phase word (Unread a ∷ rest) may h = absurd may
  second_ok phase word (InGroup a g f ∷ rest) may h = (whole_probe phase a g f word may h.0, h.1)
  second_ok phase word (Answered a x f l ∷ rest) may h = (h.0, second_ok phase word rest may h.1)

  seen_ok : (below : (t : ℕ) → t ≤ w.clock → Hi t (updates_begun_in w)) (phase : Phase) (hi : ℕ) → hi ≡ updates_begun_in w → (ps : List Probe) → AreAnswered ps → Each (ProbeOk c A w since lo phase) ps
      → (xs : List FinishedLookup) → Each (FinishedOk c A Hi w.clock) xs → Each (FinishedOk c A Hi w.clock) (with_answers lo hi ps xs)
  seen_ok below phase hi is [] all h xs each = each
  seen_ok below phase hi is (Unread a ∷ rest) all h xs each = absurd all
  seen_ok below phase hi is (InGroup a g f ∷ rest) all h xs each = absurd all
  seen_ok below phase hi is (Answered a x f l ∷ rest) all h xs each =
      seen_ok below phase hi is rest all h.1 (record { addr = a; hop = x; first = f; last = l; lo = lo; hi = hi } ∷ xs)
      ((h.0.0, h.0.1, (h.0.2.0, h.0.2.1, h.0.2.2, h.0.2.3, subst (Hi h.0.2.0) (sym is) (below h.0.2.0 (omega (arith, h.0.1, h.0.2.2))))), each)

unread_ok : (c : InitialState) (A : Told) (w : TableState) (since lo : ℕ) (phase : Phase) (addrs : List ℕ) → All (λ a. a < addresses c) addrs → Each (ProbeOk c A w since lo phase) (map Unread addrs)
unread_ok c A w since lo phase [] all = tt
unread_ok c A w since lo phase (a ∷ addrs) all = (All-head (λ x. x < addresses c) a addrs all, unread_ok c A w since lo phase addrs (All-tail (λ x. x < addresses c) a addrs all))

module _ (c : InitialState) (A : Told) (Hi : ℕ → ℕ → Type 0) (w : TableState) (workers : ℕ → Worker) (good : Good c A Hi w workers) (k : ℕ) (inside : k < c.workers) (r : Worker) (ok : WorkerOk c A Hi w k r) where
  -- the token that was loaded takes the counter's place
  held_stored : (counter loaded : ℕ) (s : Status) → HeldAs w k counter (ReportingQuiescent loaded) s → HeldAs w k loaded Online s
  held_stored counter loaded (Status.Retired token) h = (h.1, tt, h.2, h.3)
  held_stored counter loaded s h = h

  -- a step of a report, at which no lookup goes on
  reported : (counter since : ℕ) (phase : Phase) → r.probes ≡ [] → IdleAs r.probes phase → LowAs r.lo (updates_done_in w) phase → (IsRunning phase → k < c.workers)
      → counter ≤ w.token → LoadedAs w.token counter phase → since ≤ w.clock → (IsRunning phase → (g : ℕ) → since < w.unlinked g → HeldAs w k counter phase (w.groups g))
      → WorkerOk c A Hi w k (record r { counter = counter; phase = phase; since = since })
  reported counter since phase none idle low within counted loaded from grace = record {
    inside = within;
    counter = counted;
    loaded = loaded;
    since = from;
    grace = grace;
    idle = idle;
    low = low;
    probes = subst (Each (ProbeOk c A w since r.lo phase)) (sym none) tt;
    finished = ok.finished;
  }

  -- a load of a word, in a lookup
  looked : r.phase ≡ LookingUp → (ps : List Probe) → Each (ProbeOk c A w r.since r.lo r.phase) ps → WorkerOk c A Hi w k (record r { probes = ps })
  looked doing ps probes = record {
    inside = ok.inside;
    counter = ok.counter;
    loaded = ok.loaded;
    since = ok.since;
    grace = ok.grace;
    idle = subst (IdleAs ps) (sym doing) tt;
    low = ok.low;
    probes = probes;
    finished = ok.finished;
  }

  pub worker_moves : (s : WorkerStep) → MayRead c w r s → WorkerOk c A Hi w k (worker_by_step w.clock r s)
  worker_moves (LoadOnline token) may =
      let none : r.probes ≡ [] = subst (IdleAs r.probes) may.0 ok.idle in
      reported r.counter r.since (ComingOnline token) none none tt (λ run. absurd run) ok.counter (omega (arith, may.1, good.token), omega (arith, may.1)) ok.since (λ run. absurd run)
  worker_moves (StoreOnline token) may =
      let none : r.probes ≡ [] = subst (IdleAs r.probes) may ok.idle in
      let was : LoadedAs w.token r.counter (ComingOnline token) = subst (LoadedAs w.token r.counter) may ok.loaded in
      reported token w.clock Online none none tt (λ _. inside) was.1 was.0 (omega arith) (λ _ g lt. absurd (omega (arith, lt, good.unlinked g)))
  worker_moves (LoadQuiescent token) may =
      let none : r.probes ≡ [] = subst (IdleAs r.probes) may.0 ok.idle in
      let was : 0 < r.counter = subst (LoadedAs w.token r.counter) may.0 ok.loaded in
      reported r.counter w.clock (ReportingQuiescent token) none none tt (λ _. inside) ok.counter (was, omega (arith, may.1, good.token), omega (arith, may.1)) (omega arith)
      (λ _ g lt. absurd (omega (arith, lt, good.unlinked g)))
  worker_moves (StoreQuiescent token) may =
      let none : r.probes ≡ [] = subst (IdleAs r.probes) may ok.idle in
      let was : LoadedAs w.token r.counter (ReportingQuiescent token) = subst (LoadedAs w.token r.counter) may ok.loaded in
      reported token r.since Online none none tt (λ _. inside) was.2 was.1 ok.since
      (λ _ g lt. held_stored r.counter token (w.groups g) (subst (λ p. HeldAs w k r.counter p (w.groups g)) may (ok.grace (subst IsRunning (sym may) tt) g lt)))
  worker_moves StoreOffline may =
      let none : r.probes ≡ [] = subst (IdleAs r.probes) may ok.idle in
      reported 0 r.since Offline none none tt (λ run. absurd run) (omega arith) tt ok.since (λ run. absurd run)
  worker_moves (BeginLookup addrs sequence) may = record {
    inside = λ _. inside;
    counter = ok.counter;
    loaded = subst (LoadedAs w.token r.counter) may.0 ok.loaded;
    since = ok.since;
    grace = λ _ g lt. held_phase w k r.counter r.phase LookingUp (λ _ _. tt) (w.groups g) (ok.grace (subst IsRunning (sym may.0) tt) g lt);
    idle = tt;
    low = omega (arith, may.2);
    probes = unread_ok c A w r.since (done_at sequence) LookingUp addrs may.1;
    finished = ok.finished;
  }
  worker_moves (LoadFirst word) may =
      looked may.0 (first_read w.clock (entry_in word) r.probes)
      (first_ok c A Hi w good.now r.since r.lo (subst (LowAs r.lo (updates_done_in w)) may.0 ok.low) r.phase (subst IsRunning (sym may.0) tt) ok.since word r.probes may.1 ok.probes)
  worker_moves (LoadSecond word) may =
      looked may.0 (second_read w.clock (entry_in word) r.probes)
      (second_ok c A Hi w good.now r.since r.lo (subst (LowAs r.lo (updates_done_in w)) may.0 ok.low) r.phase word r.probes may.2 ok.probes)
  worker_moves (EndLookup sequence) may = record {
    inside = λ _. inside;
    counter = ok.counter;
    loaded = subst (LoadedAs w.token r.counter) may.0 ok.loaded;
    since = ok.since;
    grace = λ _ g lt. held_phase w k r.counter r.phase Online (λ _ _. tt) (w.groups g) (ok.grace (subst IsRunning (sym may.0) tt) g lt);
    idle = refl;
    low = tt;
    probes = tt;
    finished = seen_ok c A Hi w good.now r.since r.lo (subst (LowAs r.lo (updates_done_in w)) may.0 ok.low) good.below r.phase (begun_at sequence) (ap begun_at may.2) r.probes may.1 ok.probes r.finished ok.finished;
  }
  worker_moves (MeetWriter sequence) may = ok
