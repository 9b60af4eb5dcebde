-- From the number of the writer's steps to the number of all steps: each finished lookup is legal at a
-- moment.
use Rattle.std.proofs.Common.{◌≡◌, ℕ, zero, suc, ◌+◌, ◌-◌, ◌≤◌, inl, inr, cond, List, [], ◌∷◌, map, length, refl, sym, ap, subst, ◌∙◌, zero-add, arith}
use Rattle.std.specs.Bool.{⊤}
use Rattle.std.proofs.lemmas.Bool.{cases_lt}
use Rattle.lpm_cells.specs.declared.entry.Entry.{Entry}
use Rattle.lpm_cells.specs.declared.entry.Entry.TheVariants.{Group}
use Rattle.lpm_cells.specs.Words.{entry_in}
use Rattle.lpm_trace.specs.declared.step.WorkerStep.{WorkerStep}
use Rattle.lpm_trace.specs.declared.step.WorkerStep.TheVariants.{LoadOnline, LoadQuiescent, BeginLookup, LoadFirst, LoadSecond, EndLookup, MeetWriter}
use Rattle.lpm_trace.specs.declared.step.TraceStep.{TraceStep}
use Rattle.lpm_trace.specs.declared.step.TraceStep.TheVariants.{Writer, Worker as ByWorker}
use Rattle.lpm_trace.specs.States.{InitialState, IsAnswer, begun_at, version, oldest, state_after, state_at}
use Rattle.lpm_trace.specs.Trace.{Worker, Probe, Unread, InGroup, Answered, FinishedLookup, read_first, first_read, second_read, with_answers, worker_by_step, after, writes, worker_of}
use Rattle.lpm_trace.specs.Laws.{IsLegalAtPlace, at_moment, rules_of_version, IsLegal, LookupsAreLegal, VersionsNeverFall}
use Rattle.lpm_trace.proofs.Versions.{by_number, Each, each_all, version_ge, version_le}
use Rattle.lpm_trace.proofs.Traces.{oldest_case, oldest_old, oldest_new, oldest_all, clock_length, state_is, rising, all_right}

-- ---- how many of the first n steps are the writer's

abbrev pub count : List TraceStep → ℕ → ℕ
count steps n = length (writes (oldest n steps))

pub count_old : (s : TraceStep) (steps : List TraceStep) (n : ℕ) → n ≤ length steps → count (s ∷ steps) n ≡ count steps n
count_old s steps n le = ap (λ l. length (writes l)) (oldest_old s steps n le)

writes_more : (s : TraceStep) (steps : List TraceStep) → (length (writes steps) ≤ length (writes (s ∷ steps))) × (length (writes (s ∷ steps)) ≤ suc (length (writes steps)))
writes_more (Writer s) steps = (omega arith, omega arith)
writes_more (ByWorker k s) steps = (omega arith, omega arith)

pub count_le : (steps : List TraceStep) (n : ℕ) → count steps n ≤ length (writes steps)
count_le [] n = omega arith
count_le (s ∷ steps) n = oldest_case (λ l. length (writes l) ≤ length (writes (s ∷ steps))) s steps n
    (λ _. omega arith)
    (λ _. omega (arith, count_le steps n, (writes_more s steps).0))

writes_older : (s : TraceStep) (steps : List TraceStep) (n : ℕ) → n ≤ length (writes steps) → oldest n (writes (s ∷ steps)) ≡ oldest n (writes steps)
writes_older (Writer s) steps n le = oldest_old s (writes steps) n le
writes_older (ByWorker k s) steps n le = refl

-- the writer's steps among the first n
pub writes_oldest : (steps : List TraceStep) (n : ℕ) → oldest (count steps n) (writes steps) ≡ writes (oldest n steps)
writes_oldest [] n = refl
writes_oldest (s ∷ steps) n = oldest_case (λ l. oldest (length (writes l)) (writes (s ∷ steps)) ≡ writes l) s steps n
    (λ _. oldest_all (writes (s ∷ steps)) (length (writes (s ∷ steps))) (omega arith))
    (λ _. writes_older s steps (count steps n) (count_le steps n) ∙ writes_oldest steps n)

pub count_next : (steps : List TraceStep) (n : ℕ) → (count steps n ≤ count steps (suc n)) × (count steps (suc n) ≤ suc (count steps n))
count_next [] n = (omega arith, omega arith)
count_next (s ∷ steps) n = elim (cases_lt (length steps) n) [
  | inl h ↦
      let now = ap (λ l. length (writes l)) (oldest_new s steps n h) in
      let next = ap (λ l. length (writes l)) (oldest_new s steps (suc n) (omega (arith, h))) in
      (omega (arith, now, next), omega (arith, now, next))
  | inr h ↦ elim (cases_lt (length steps) (suc n)) [
    | inl last ↦
        let now = count_old s steps n h in
        let all : count steps n ≡ length (writes steps) = ap (λ l. length (writes l)) (oldest_all steps n (omega (arith, last))) in
        let next = ap (λ l. length (writes l)) (oldest_new s steps (suc n) last) in
        let one = writes_more s steps in
        (omega (arith, now, all, next, one.0), omega (arith, now, all, next, one.1))
    | inr more ↦
        let now = count_old s steps n h in
        let next = count_old s steps (suc n) more in
        let both = count_next steps n in
        (omega (arith, now, next, both.0), omega (arith, now, next, both.1))
  ]
]

pub count_rises : (steps : List TraceStep) (m d : ℕ) → count steps m ≤ count steps (d + m)
count_rises steps m zero = let same = ap (count steps) (zero-add m) in omega (arith, same)
count_rises steps m (suc d) =
    let more = (count_next steps (d + m)).0 in
    let next : suc d + m ≡ suc (d + m) = omega arith in
    let same = ap (count steps) next in
    omega (arith, count_rises steps m d, more, same)

-- each number of the writer's steps between those at two moments is that at a moment between them
record IsMoment (steps : List TraceStep) (from to place : ℕ) : Type 0 where
  pub moment : ℕ
  pub after : from ≤ moment
  pub before : moment ≤ to
  pub is : count steps moment ≡ place

moment_from : (steps : List TraceStep) (from d place : ℕ) → count steps from ≤ place → place ≤ count steps (d + from) → IsMoment steps from (d + from) place
moment_from steps from zero place low high = let same = ap (count steps) (zero-add from) in record { moment = from; after = omega arith; before = omega arith; is = omega (arith, low, high, same) }
moment_from steps from (suc d) place low high = let next : suc d + from ≡ suc (d + from) = omega arith in let same = ap (count steps) next in elim (cases_lt (count steps (d + from)) place) [
  | inl last ↦ let one = (count_next steps (d + from)).1 in record { moment = suc d + from; after = omega arith; before = omega arith; is = omega (arith, one, high, last, same) }
  | inr le ↦ let m = moment_from steps from d place low le in record { moment = m.moment; after = m.after; before = omega (arith, m.before); is = m.is }
]

-- ---- the two clocks

-- a step of this number stands after so many of the writer's
abbrev IsTime : List TraceStep → ℕ → ℕ → Type 0
IsTime steps place number = (place ≡ count steps number) × (number ≤ length steps)

-- the two clocks agree on how far each address of a lookup has come
abbrev pub ProbesAgree : List TraceStep → List Probe → List Probe → Type 0
ProbesAgree steps [] [] = ⊤
ProbesAgree steps (Unread a ∷ ps) (Unread b ∷ qs) = (a ≡ b) × ProbesAgree steps ps qs
ProbesAgree steps (InGroup a g f ∷ ps) (InGroup b h n ∷ qs) = ((a ≡ b) × (g ≡ h) × IsTime steps f n) × ProbesAgree steps ps qs
ProbesAgree steps (Answered a x f l ∷ ps) (Answered b y m n ∷ qs) = ((a ≡ b) × (x ≡ y) × IsTime steps f m × IsTime steps l n × (m ≤ n)) × ProbesAgree steps ps qs
ProbesAgree steps _ _ = ⊥

abbrev SeenAgrees : List TraceStep → FinishedLookup → FinishedLookup → Type 0
SeenAgrees steps s n = (s.addr ≡ n.addr) × (s.hop ≡ n.hop) × (s.lo ≡ n.lo) × (s.hi ≡ n.hi) × IsTime steps s.first n.first × IsTime steps s.last n.last × (n.first ≤ n.last)

abbrev AllSeenAgree : List TraceStep → List FinishedLookup → List FinishedLookup → Type 0
AllSeenAgree steps [] [] = ⊤
AllSeenAgree steps (x ∷ xs) (y ∷ ys) = SeenAgrees steps x y × AllSeenAgree steps xs ys
AllSeenAgree steps _ _ = ⊥

pub record Agrees (steps : List TraceStep) (p n : Worker) : Type 0 where
  pub counter : p.counter ≡ n.counter
  pub phase : p.phase ≡ n.phase
  pub lo : p.lo ≡ n.lo
  pub probes : ProbesAgree steps p.probes n.probes
  pub finished : AllSeenAgree steps p.finished n.finished

module _ (s : TraceStep) (steps : List TraceStep) where
  time_stays : (place number : ℕ) → IsTime steps place number → IsTime (s ∷ steps) place number
  time_stays place number is = (is.0 ∙ sym (count_old s steps number is.1), omega (arith, is.1))

  probes_stay : (ps qs : List Probe) → ProbesAgree steps ps qs → ProbesAgree (s ∷ steps) ps qs
  probes_stay [] [] z = tt
  probes_stay (Unread a ∷ ps) (Unread b ∷ qs) z = (z.0, probes_stay ps qs z.1)
  probes_stay (InGroup a g f ∷ ps) (InGroup b h n ∷ qs) z = ((z.0.0, z.0.1, time_stays f n z.0.2), probes_stay ps qs z.1)
  probes_stay (Answered a x f l ∷ ps) (Answered b y m n ∷ qs) z = ((z.0.0, z.0.1, time_stays f m z.0.2, time_stays l n z.0.3, z.0.4), probes_stay ps qs z.1)
  probes_stay _ _ z = absurd z

  seen_stay : (xs ys : List FinishedLookup) → AllSeenAgree steps xs ys → AllSeenAgree (s ∷ steps) xs ys
  seen_stay [] [] z = tt
  seen_stay (x ∷ xs) (y ∷ ys) z = ((z.0.0, z.0.1, z.0.2, z.0.3, time_stays x.first y.first z.0.4, time_stays x.last y.last z.0.5, z.0.6), seen_stay xs ys z.1)
  seen_stay _ _ z = absurd z

  agrees_stays : (p n : Worker) → Agrees steps p n → Agrees (s ∷ steps) p n
  agrees_stays p n h = record { counter = h.counter; phase = h.phase; lo = h.lo; probes = probes_stay p.probes n.probes h.probes; finished = seen_stay p.finished n.finished h.finished }

module _ (steps : List TraceStep) (place number : ℕ) (time : IsTime steps place number) (last : (n : ℕ) → n ≤ length steps → n ≤ number) where
  read_agrees : (a b : ℕ) → a ≡ b → (e : Entry) (ps qs : List Probe) → ProbesAgree steps ps qs → ProbesAgree steps (read_first place a e ∷ ps) (read_first number b e ∷ qs)
  read_agrees a b same (Group group) ps qs z = ((same, refl, time), z)
  read_agrees a b same e ps qs z = ((same, refl, time, time, omega arith), z)

  first_agrees : (e : Entry) (ps qs : List Probe) → ProbesAgree steps ps qs → ProbesAgree steps (first_read place e ps) (first_read number e qs)
  first_agrees e [] [] z = tt
  first_agrees e (Unread a ∷ ps) (Unread b ∷ qs) z = read_agrees a b z.0 e ps qs z.1
  first_agrees e (InGroup a g f ∷ ps) (InGroup b h n ∷ qs) z = (z.0, first_agrees e ps qs z.1)
  first_agrees e (Answered a x f l ∷ ps) (Answered b y m n ∷ qs) z = (z.0, first_agrees e ps qs z.1)
  first_agrees e _ _ z = absurd z

  second_agrees : (e : Entry) (ps qs : List Probe) → ProbesAgree steps ps qs → ProbesAgree steps (second_read place e ps) (second_read number e qs)
  second_agrees e [] [] z = tt
  second_agrees e (Unread a ∷ ps) (Unread b ∷ qs) z = (z.0, second_agrees e ps qs z.1)
  second_agrees e (InGroup a g f ∷ ps) (InGroup b h n ∷ qs) z = ((z.0.0, refl, z.0.2, time, last n z.0.2.1), z.1)
  second_agrees e (Answered a x f l ∷ ps) (Answered b y m n ∷ qs) z = (z.0, second_agrees e ps qs z.1)
  second_agrees e _ _ z = absurd z

  answers_agree : (lo lo' hi : ℕ) → lo ≡ lo' → (ps qs : List Probe) → ProbesAgree steps ps qs → (xs ys : List FinishedLookup) → AllSeenAgree steps xs ys
      → AllSeenAgree steps (with_answers lo hi ps xs) (with_answers lo' hi qs ys)
  answers_agree lo lo' hi same [] [] z xs ys f = f
  answers_agree lo lo' hi same (Unread a ∷ ps) (Unread b ∷ qs) z xs ys f = answers_agree lo lo' hi same ps qs z.1 xs ys f
  answers_agree lo lo' hi same (InGroup a g m ∷ ps) (InGroup b h n ∷ qs) z xs ys f = answers_agree lo lo' hi same ps qs z.1 xs ys f
  answers_agree lo lo' hi same (Answered a x m l ∷ ps) (Answered b y n k ∷ qs) z xs ys f =
      answers_agree lo lo' hi same ps qs z.1 (record { addr = a; hop = x; first = m; last = l; lo = lo; hi = hi } ∷ xs) (record { addr = b; hop = y; first = n; last = k; lo = lo'; hi = hi } ∷ ys)
      ((z.0.0, z.0.1, same, refl, z.0.2, z.0.3, z.0.4), f)
  answers_agree lo lo' hi same _ _ z xs ys f = absurd z

  waits_agree : (addrs : List ℕ) → ProbesAgree steps (map Unread addrs) (map Unread addrs)
  waits_agree [] = tt
  waits_agree (a ∷ addrs) = (refl, waits_agree addrs)

  moves_agree : (p n : Worker) → Agrees steps p n → (s : WorkerStep) → Agrees steps (worker_by_step place p s) (worker_by_step number n s)
  moves_agree p n h (LoadOnline token) = record { counter = h.counter; phase = refl; lo = h.lo; probes = h.probes; finished = h.finished }
  moves_agree p n h (LoadQuiescent token) = record { counter = h.counter; phase = refl; lo = h.lo; probes = h.probes; finished = h.finished }
  moves_agree p n h (BeginLookup addrs sequence) = record { counter = h.counter; phase = refl; lo = refl; probes = waits_agree addrs; finished = h.finished }
  moves_agree p n h (LoadFirst word) = record { counter = h.counter; phase = h.phase; lo = h.lo; probes = first_agrees (entry_in word) p.probes n.probes h.probes; finished = h.finished }
  moves_agree p n h (LoadSecond word) = record { counter = h.counter; phase = h.phase; lo = h.lo; probes = second_agrees (entry_in word) p.probes n.probes h.probes; finished = h.finished }
  moves_agree p n h (EndLookup sequence) = record { counter = h.counter; phase = refl; lo = h.lo; probes = tt; finished = answers_agree p.lo n.lo (begun_at sequence) h.lo p.probes n.probes h.probes p.finished n.finished h.finished }
  moves_agree p n h (MeetWriter sequence) = h
  moves_agree p n h s = record { counter = refl; phase = refl; lo = h.lo; probes = h.probes; finished = h.finished }

-- each worker, by the two clocks
pub clocks_agree : (c : InitialState) (steps : List TraceStep) (k : ℕ) → Agrees steps ((after c steps).workers k) (worker_of k steps)
clocks_agree c [] k = record { counter = refl; phase = refl; lo = refl; probes = tt; finished = tt }
clocks_agree c (Writer s ∷ steps) k = agrees_stays (Writer s) steps ((after c steps).workers k) (worker_of k steps) (clocks_agree c steps k)
clocks_agree c (ByWorker j s ∷ steps) k =
    let w = (after c steps).workers in
    let more = ByWorker j s ∷ steps in
    let here = clocks_agree c steps k in
    let clock : (after c steps).state.clock ≡ length (writes steps) = ap (λ t. t.clock) (state_is c steps) ∙ clock_length c (writes steps) in
    let count_all : count more (suc (length steps)) ≡ length (writes steps) = ap (λ l. length (writes l)) (oldest_all more (suc (length steps)) (omega arith)) in
    by_number (λ b. Agrees more (cond b (worker_by_step (after c steps).state.clock (w j) s) (w k)) (cond b (worker_by_step (suc (length steps)) (worker_of k steps) s) (worker_of k steps))) k j
    (λ h. subst (λ i. Agrees more (worker_by_step (after c steps).state.clock (w i) s) (worker_by_step (suc (length steps)) (worker_of k steps) s)) h.1
    (moves_agree more (after c steps).state.clock (suc (length steps)) (clock ∙ sym count_all, omega arith) (λ n le. omega (arith, le))
    (w k) (worker_of k steps) (agrees_stays (ByWorker j s) steps (w k) (worker_of k steps) here) s))
    (λ h. agrees_stays (ByWorker j s) steps (w k) (worker_of k steps) here)

-- ---- the laws

-- a place of the span of a lookup is that at a moment of its span
span_moment : (steps : List TraceStep) (s n : FinishedLookup) → SeenAgrees steps s n → (place : ℕ) → s.first ≤ place → place ≤ s.last → IsMoment steps n.first n.last place
span_moment steps s n same place from to =
    let d : ℕ = n.last - n.first in
    let whole : d + n.first ≡ n.last = omega (arith, same.6) in
    subst (λ l. IsMoment steps n.first l place) whole
    (moment_from steps n.first d place (omega (arith, same.4.0, from)) (subst (λ l. place ≤ count steps l) (sym whole) (omega (arith, same.5.0, to))))

at_place : (c : InitialState) (steps : List TraceStep) (n place : ℕ) → count steps n ≡ place → state_at c (writes steps) place ≡ at_moment c steps n
at_place c steps n place is = ap (state_at c (writes steps)) (sym is) ∙ ap (state_after c) (writes_oldest steps n)

legal : (c : InitialState) (steps : List TraceStep) (s n : FinishedLookup) → SeenAgrees steps s n → IsLegalAtPlace c (writes steps) s → IsLegal c steps n
legal c steps s n same right =
    let m = span_moment steps s n same right.place right.from right.to in
    let at : state_at c (writes steps) right.place ≡ at_moment c steps m.moment = at_place c steps m.moment right.place m.is in
    let k = version (at_moment c steps m.moment) n.addr in
    let shown : version (state_at c (writes steps) right.place) s.addr ≡ k = ap (λ w. version w s.addr) at ∙ ap (version (at_moment c steps m.moment)) same.0 in
    record {
      moment = m.moment;
      chosen = k;
      from = m.after;
      to = m.before;
      within = same.5.1;
      shown = refl;
      stands = (version_ge (at_moment c steps m.moment) n.addr, version_le (at_moment c steps m.moment) n.addr);
      answers = subst (λ v. IsAnswer c (rules_of_version c steps v) n.addr n.hop) shown
          (subst (λ a. IsAnswer c (rules_of_version c steps (version (state_at c (writes steps) right.place) s.addr)) a n.hop) same.0
          (subst (λ h. IsAnswer c (rules_of_version c steps (version (state_at c (writes steps) right.place) s.addr)) s.addr h) same.1 right.answers));
      low = omega (arith, same.2, right.low, shown);
      high = omega (arith, same.3, right.high, shown);
    }

all_legal : (c : InitialState) (steps : List TraceStep) (xs ys : List FinishedLookup) → AllSeenAgree steps xs ys → Each (IsLegalAtPlace c (writes steps)) xs → Each (IsLegal c steps) ys
all_legal c steps [] [] z each = tt
all_legal c steps (x ∷ xs) (y ∷ ys) z each = (legal c steps x y z.0 each.0, all_legal c steps xs ys z.1 each.1)
all_legal c steps _ _ z each = absurd z

pub lookups_are_legal : LookupsAreLegal
lookups_are_legal c steps k settled trace =
    each_all (IsLegal c steps) (worker_of k steps).finished
    (all_legal c steps ((after c steps).workers k).finished (worker_of k steps).finished (clocks_agree c steps k).finished (all_right c settled steps trace k))

pub versions_never_fall : VersionsNeverFall
versions_never_fall c steps a t u le =
    let d : ℕ = u - t in
    let whole : d + t ≡ u = omega (arith, le) in
    let more : count steps t ≤ count steps u = subst (λ n. count steps t ≤ count steps n) whole (count_rises steps t d) in
    let now = at_place c steps t (count steps t) refl in
    let then = at_place c steps u (count steps u) refl in (
      (version_ge (at_moment c steps t) a, version_le (at_moment c steps t) a),
      subst (λ w. version w a ≤ version (at_moment c steps u) a) now
          (subst (λ w. version (state_at c (writes steps) (count steps t)) a ≤ version w a) then (rising c (writes steps) (count steps t) (count steps u) a more)),
    )
