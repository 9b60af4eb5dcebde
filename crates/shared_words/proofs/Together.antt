-- The steps of a lookup of one address, and of four.
use Rattle.std.proofs.Common.{◌≡◌, ℕ, ◌+◌, ◌*◌, ◌%◌, ◌^◌, ◌≤◌, All, List, [], ◌∷◌, ◌++◌, map, length, slice_index, Option, Some, None, refl, sym, ap, subst, ◌∙◌, append-nil, append_assoc, arith}
use Rattle.std.proofs.lemmas.List.Elements.{All-nil, All-cons, All-head, All-tail, All-push}
use mathlib.Core.List.{reverse_aux, reverse_aux-eq, tail}
use Rattle.lpm_cells.specs.declared.entry.Entry.{Entry}
use Rattle.lpm_cells.specs.declared.entry.Entry.TheVariants.{Miss, Hop, Group}
use Rattle.lpm_cells.specs.Words.{IsFirstWord, entry_in, hop_in, IsLast}
use Rattle.lpm_trace.specs.declared.step.WorkerStep.{WorkerStep}
use Rattle.lpm_trace.specs.declared.step.WorkerStep.TheVariants.{BeginLookup, LoadFirst, LoadSecond, EndLookup}
use Rattle.lpm_trace.specs.States.{done_at, begun_at}
use Rattle.lpm_trace.specs.Trace.{worker_by, Worker as WorkerState, Online, LookingUp, Unread, InGroup, Answered, FinishedLookup, Probe, worker_by_step, with_answers, read_first, first_read, second_read, AreBegun, AreAnswered}
use Rattle.lpm_trace.specs.Laws.{IsLegalAtPlace}
use Rattle.shared_words.specs.declared.view.View.{View}
use Rattle.shared_words.specs.Layout.{InitialData, initial_state_of}
use Rattle.shared_words.specs.Seats.{IsSound, Gains, IsSecondAt}
use Rattle.shared_words.specs.Deeds.{AddressLookup, IsReadOn, last_at, seen_of, firsts_at, loads_at, second_load, seconds_at, GainsAt, GoesOn, LoadsFirsts, LoadsLast, IsNextWith, LooksFor, LooksUp, LooksUpAll, first_words, loads_first}
use Rattle.shared_words.proofs.Deeds.{alone, gains_on, goes_at, goes_on, gains_state, around, later_longer, answered, word_fits}

-- ---- the probes of a lookup

begun_cons : (now a : ℕ) (e : Entry) (rest : List Probe) → AreBegun rest → AreBegun (read_first now a e ∷ rest)
begun_cons now a Miss rest begun = begun
begun_cons now a (Hop hop depth) rest begun = begun
begun_cons now a (Group group) rest begun = begun

first_read_at : (now a : ℕ) (e : Entry) (rest before : List Probe) → AreBegun before
    → first_read now e (before ++ Unread a ∷ rest) ≡ before ++ read_first now a e ∷ rest
first_read_at now a e rest [] begun = refl
first_read_at now a e rest (Unread x ∷ before) begun = absurd begun
first_read_at now a e rest (InGroup x g f ∷ before) begun =
    ap (λ ps. InGroup x g f ∷ ps) (first_read_at now a e rest before begun)
first_read_at now a e rest (Answered x h f l ∷ before) begun =
    ap (λ ps. Answered x h f l ∷ ps) (first_read_at now a e rest before begun)

module _ (a group first : ℕ) (rest : List Probe) where
  second_read_at : (now : ℕ) (e : Entry) (before : List Probe) → AreAnswered before
      → second_read now e (before ++ InGroup a group first ∷ rest) ≡ before ++ Answered a (hop_in e) first now ∷ rest
  second_read_at now e [] done = refl
  second_read_at now e (Unread x ∷ before) done = absurd done
  second_read_at now e (InGroup x g f ∷ before) done = absurd done
  second_read_at now e (Answered x h f l ∷ before) done =
      ap (λ ps. Answered x h f l ∷ ps) (second_read_at now e before done)

  second_at : (second j : ℕ) → j ≡ group * 2 ^ second + a % 2 ^ second → (before : List Probe) → AreAnswered before
      → IsSecondAt second j (before ++ InGroup a group first ∷ rest)
  second_at second j there [] done = there
  second_at second j there (Unread x ∷ before) done = absurd done
  second_at second j there (InGroup x g f ∷ before) done = absurd done
  second_at second j there (Answered x h f l ∷ before) done = second_at second j there before done

  all_begun : AreBegun rest → (before : List Probe) → AreAnswered before
      → AreBegun (before ++ InGroup a group first ∷ rest)
  all_begun begun [] done = begun
  all_begun begun (Unread x ∷ before) done = absurd done
  all_begun begun (InGroup x g f ∷ before) done = absurd done
  all_begun begun (Answered x h f l ∷ before) done = all_begun begun before done

-- the worker stands as this one, but for these probes
abbrev Stands : WorkerState → List Probe → View → Type 0
Stands r probes v = worker_by v.own_steps ≡ record r { probes = probes }

-- ---- the first words

first_stands : (r : WorkerState) (a word : ℕ) (rest before : List Probe) (v w : View) (g : Gains (LoadFirst word) v w)
    → AreBegun before → Stands r (before ++ Unread a ∷ rest) v
    → Stands r (before ++ read_first (length g.writer_steps) a (entry_in word) ∷ rest) w
first_stands r a word rest before v w g begun stands =
    gains_state (LoadFirst word) v w g
    ∙ ap (λ (x : WorkerState). worker_by_step (length g.writer_steps) x (LoadFirst word)) stands
    ∙ ap (λ (ps : List Probe). record r { probes = ps }) (first_read_at (length g.writer_steps) a (entry_in word) rest before begun)

-- the first word of an address that is looked up alone
first_loaded : {addr word : ℕ} {v u : View} → (worker_by v.own_steps).probes ≡ Unread addr ∷ []
    → Gains (LoadFirst word) v u → LoadsFirsts (addr ∷ []) (word ∷ []) v u
first_loaded {addr} {word} {v} {u} unread g = record {
  steps = (v, refl, g, refl);
  rest = gains_on (LoadFirst word) v u g;
  places = length g.writer_steps ∷ [];
  count = refl;
  after = All-cons (λ n. length v.writer_steps ≤ n) (length g.writer_steps) [] (later_longer v.writer_steps g.writer_steps g.later)
      (All-nil (λ n. length v.writer_steps ≤ n));
  state = first_stands (worker_by v.own_steps) addr word [] [] v u g tt
      (ap (λ (ps : List Probe). record (worker_by v.own_steps) { probes = ps }) unread);
}

module _ (a b c d : ℕ) (v v1 v2 v3 w : View) (x1 x2 x3 x4 : ℕ) (g1 : Gains (LoadFirst x1) v v1)
    (g2 : Gains (LoadFirst x2) v1 v2) (g3 : Gains (LoadFirst x3) v2 v3) (g4 : Gains (LoadFirst x4) v3 w) where
  pub firsts_loaded : (worker_by v.own_steps).probes ≡ Unread a ∷ Unread b ∷ Unread c ∷ Unread d ∷ []
      → LoadsFirsts (a ∷ b ∷ c ∷ d ∷ []) (x1 ∷ x2 ∷ x3 ∷ x4 ∷ []) v w
  firsts_loaded unread =
      let r : WorkerState = worker_by v.own_steps in
      let n1 : ℕ = length g1.writer_steps in
      let n2 : ℕ = length g2.writer_steps in
      let n3 : ℕ = length g3.writer_steps in
      let n4 : ℕ = length g4.writer_steps in
      let p1 : Probe = read_first n1 a (entry_in x1) in
      let p2 : Probe = read_first n2 b (entry_in x2) in
      let p3 : Probe = read_first n3 c (entry_in x3) in
      let p4 : Probe = read_first n4 d (entry_in x4) in
      let b1 : AreBegun (p1 ∷ []) = begun_cons n1 a (entry_in x1) [] tt in
      let b2 : AreBegun (p1 ∷ p2 ∷ []) = begun_cons n1 a (entry_in x1) (p2 ∷ []) (begun_cons n2 b (entry_in x2) [] tt) in
      let b3 : AreBegun (p1 ∷ p2 ∷ p3 ∷ []) = begun_cons n1 a (entry_in x1) (p2 ∷ p3 ∷ [])
      (begun_cons n2 b (entry_in x2) (p3 ∷ []) (begun_cons n3 c (entry_in x3) [] tt)) in
      let s0 : Stands r (Unread a ∷ Unread b ∷ Unread c ∷ Unread d ∷ []) v =
      ap (λ (ps : List Probe). record r { probes = ps }) unread in
      let s1 = first_stands r a x1 (Unread b ∷ Unread c ∷ Unread d ∷ []) [] v v1 g1 tt s0 in
      let s2 = first_stands r b x2 (Unread c ∷ Unread d ∷ []) (p1 ∷ []) v1 v2 g2 b1 s1 in
      let s3 = first_stands r c x3 (Unread d ∷ []) (p1 ∷ p2 ∷ []) v2 v3 g3 b2 s2 in
      let s4 = first_stands r d x4 [] (p1 ∷ p2 ∷ p3 ∷ []) v3 w g4 b3 s3 in
      let o1 : GoesOn v v1 = gains_on (LoadFirst x1) v v1 g1 in
      let o2 : GoesOn v v2 = goes_on v v1 v2 o1 (gains_on (LoadFirst x2) v1 v2 g2) in
      let o3 : GoesOn v v3 = goes_on v v2 v3 o2 (gains_on (LoadFirst x3) v2 v3 g3) in
      let l1 : length v.writer_steps ≤ n1 = later_longer v.writer_steps g1.writer_steps g1.later in
      let l2 : length v.writer_steps ≤ n2 = omega (arith, later_longer v.writer_steps v1.writer_steps o1.later, later_longer v1.writer_steps g2.writer_steps g2.later) in
      let l3 : length v.writer_steps ≤ n3 = omega (arith, later_longer v.writer_steps v2.writer_steps o2.later, later_longer v2.writer_steps g3.writer_steps g3.later) in
      let l4 : length v.writer_steps ≤ n4 = omega (arith, later_longer v.writer_steps v3.writer_steps o3.later, later_longer v3.writer_steps g4.writer_steps g4.later) in
      let is : ℕ → Type 0 = λ place. length v.writer_steps ≤ place in
      record {
        steps = (v3, (v2, (v1, (v, refl, g1, refl), g2, refl), g3, refl), g4, refl);
        rest = goes_on v v3 w o3 (gains_on (LoadFirst x4) v3 w g4);
        places = n1 ∷ n2 ∷ n3 ∷ n4 ∷ [];
        count = refl;
        after = All-cons is n1 (n2 ∷ n3 ∷ n4 ∷ []) l1 (All-cons is n2 (n3 ∷ n4 ∷ []) l2
            (All-cons is n3 (n4 ∷ []) l3 (All-cons is n4 [] l4 (All-nil is))));
        state = s4;
      }

-- ---- the words that answer

module _ (addr word : ℕ) (v : View) where
  pub no_second : IsLast (entry_in word) → LoadsLast addr word word v v
  no_second last = record {
    second = None;
    steps = refl;
    exact = alone (entry_in word) last;
    rest = record { same = refl; later = ([], refl) };
    state = λ next.
        ap (λ (ps : List Probe). record (worker_by v.own_steps) { probes = ps })
        (next.split
        ∙ ap (λ (p : Probe). next.before ++ p ∷ next.rest) (answered next.first addr (entry_in word) last));
  }

  module _ (group : ℕ) (is : entry_in word ≡ Group group) where
    grouped : (next : IsNextWith addr word (worker_by v.own_steps).probes)
        → (worker_by v.own_steps).probes ≡ next.before ++ InGroup addr group next.first ∷ next.rest
    grouped next = next.split ∙ ap (λ (e : Entry). next.before ++ read_first next.first addr e ∷ next.rest) is

    pub begun_with : IsNextWith addr word (worker_by v.own_steps).probes → AreBegun (worker_by v.own_steps).probes
    begun_with next = subst AreBegun (sym (grouped next))
        (all_begun addr group next.first next.rest next.begun next.before next.answered)

    pub second_with : (second j : ℕ) → j ≡ group * 2 ^ second + addr % 2 ^ second
        → IsNextWith addr word (worker_by v.own_steps).probes → IsSecondAt second j (worker_by v.own_steps).probes
    second_with second j there next = subst (IsSecondAt second j) (sym (grouped next))
        (second_at addr group next.first next.rest second j there next.before next.answered)

    pub second_loaded : (last : ℕ) (w : View) → Gains (LoadSecond last) v w → LoadsLast addr word last v w
    second_loaded last w g = record {
      second = Some (last, length g.writer_steps);
      steps = (v, refl, g, refl);
      exact = subst (λ (e : Entry). IsReadOn e (Some (last, length g.writer_steps)) (hop_in (entry_in last))) (sym is)
          ((last, length g.writer_steps), refl, refl);
      rest = gains_on (LoadSecond last) v w g;
      state = λ next.
          gains_state (LoadSecond last) v w g
          ∙ ap (λ (ps : List Probe). record (worker_by v.own_steps) { probes = ps })
          (ap (second_read (length g.writer_steps) (entry_in last)) (grouped next)
          ∙ second_read_at addr group next.first next.rest (length g.writer_steps) (entry_in last) next.before next.answered);
    }

-- ---- the whole lookup

-- the answer that was found for an address
abbrev answer : AddressLookup → Probe
answer f = Answered f.addr f.hop f.first (last_at f.first f.second)

all_answers : (done : List AddressLookup) → AreAnswered (map answer done)
all_answers [] = tt
all_answers (f ∷ done) = all_answers done

all_first : (places addrs words : List ℕ) → AreBegun (first_words places addrs words)
all_first [] addrs words = tt
all_first (n ∷ places) [] words = tt
all_first (n ∷ places) (a ∷ addrs) [] = tt
all_first (n ∷ places) (a ∷ addrs) (word ∷ words) =
    begun_cons n a (entry_in word) (first_words places addrs words) (all_first places addrs words)

-- one more address has its answer
answer_more : (done : List AddressLookup) (f : AddressLookup) (rest : List Probe)
    → map answer done ++ answer f ∷ rest ≡ map answer (done ++ f ∷ []) ++ rest
answer_more [] f rest = refl
answer_more (x ∷ done) f rest = ap (λ (ps : List Probe). answer x ∷ ps) (answer_more done f rest)

firsts_more : (done : List AddressLookup) (f : AddressLookup)
    → (LoadFirst f.word, f.first) ∷ [] ++ firsts_at done ≡ firsts_at (done ++ f ∷ [])
firsts_more [] f = refl
firsts_more (x ∷ done) f =
    ap (λ (steps : List (WorkerStep × ℕ)). steps ++ (LoadFirst x.word, x.first) ∷ []) (firsts_more done f)

seconds_more : (done : List AddressLookup) (f : AddressLookup)
    → second_load f.second ++ seconds_at done ≡ seconds_at (done ++ f ∷ [])
seconds_more [] f = append-nil (second_load f.second)
seconds_more (x ∷ done) f = sym (append_assoc (second_load f.second) (seconds_at done) (second_load x.second))
    ∙ ap (λ (steps : List (WorkerStep × ℕ)). steps ++ second_load x.second) (seconds_more done f)

-- a lookup of these addresses began at view v and had its first words at view f. At view u those that are
-- done have their answers, and behind them those that are left have their first words.
pub record Reads (all : List ℕ) (low : ℕ) (v0 v f : View) (done : List AddressLookup) (places left words : List ℕ) (u : View)
    : Type 0 where
  pub begins : Gains (BeginLookup all low) v0 v
  pub count : length places ≡ length left
  pub fit : All (IsFirstWord (v.initial.first + v.initial.second) v.initial.second v.initial.seconds) words
  pub stands : worker_by u.own_steps ≡ record (worker_by v.own_steps) { probes = map answer done ++ first_words places left words }
  pub firsts : GainsAt (loads_first places words ++ firsts_at done) v f
  pub seconds : GainsAt (seconds_at done) f u
  pub exact : All (λ x. IsReadOn (entry_in x.word) x.second x.hop) done
  pub after : All (λ x. length v.writer_steps ≤ x.first) done
  pub later : All (λ n. length v.writer_steps ≤ n) places
  pub on : GoesOn v u

pub same_four : {A : Type 0} {a b c d a' b' c' d' : A} → a' ≡ a → b' ≡ b → c' ≡ c → d' ≡ d
    → a' ∷ b' ∷ c' ∷ d' ∷ [] ≡ a ∷ b ∷ c ∷ d ∷ []
same_four p q s t = λ i. p i ∷ q i ∷ s i ∷ t i ∷ []

-- the first words are loaded
pub reads : {all addrs words : List ℕ} {low : ℕ} {v0 v f : View} → all ≡ addrs → Gains (BeginLookup all low) v0 v
    → All (IsFirstWord (v.initial.first + v.initial.second) v.initial.second v.initial.seconds) words
    → (loads : LoadsFirsts addrs words v f) → Reads addrs low v0 v f [] loads.places addrs words f
reads {all} {addrs} {words} {low} {v0} {v} {f} same begun fit loads = record {
  begins = subst (λ (xs : List ℕ). Gains (BeginLookup xs low) v0 v) same begun;
  count = loads.count;
  fit = fit;
  stands = loads.state;
  firsts = subst (λ (steps : List (WorkerStep × ℕ)). GainsAt steps v f)
      (sym (append-nil (loads_first loads.places words))) loads.steps;
  seconds = refl;
  exact = All-nil (λ x. IsReadOn (entry_in x.word) x.second x.hop);
  after = All-nil (λ x. length v.writer_steps ≤ x.first);
  later = loads.after;
  on = loads.rest;
}

pub reads_alone : {a addr word low : ℕ} {v0 v f : View} → a ≡ addr → Gains (BeginLookup (a ∷ []) low) v0 v
    → IsFirstWord (v.initial.first + v.initial.second) v.initial.second v.initial.seconds word
    → (g : Gains (LoadFirst word) v f)
    → Reads (addr ∷ []) low v0 v f [] (length g.writer_steps ∷ []) (addr ∷ []) (word ∷ []) f
unfolding first_loaded
reads_alone {a} {addr} {word} {low} {v0} {v} {f} same begun fit g =
    let unread = ap (λ (x : WorkerState). x.probes) (gains_state (BeginLookup (a ∷ []) low) v0 v begun)
    ∙ ap (λ n. Unread n ∷ []) same in
    let is = IsFirstWord (v.initial.first + v.initial.second) v.initial.second v.initial.seconds in
    reads (ap (λ n. n ∷ []) same) begun (All-cons is word [] fit (All-nil is)) (first_loaded unread g)

-- an address that was looked up, where its first word was loaded at the first of these places
abbrev found : ℕ → ℕ → ℕ → List ℕ → Option (ℕ × ℕ) → AddressLookup
found a word last places second = record {
  addr = a;
  hop = hop_in (entry_in last);
  word = word;
  first = slice_index places 0;
  second = second;
}

module _ {all : List ℕ} {low : ℕ} {v0 v f : View} {done : List AddressLookup} where
  -- the next address
  next_of : {n a word : ℕ} {places left words : List ℕ} {u : View}
      → Reads all low v0 v f done (n ∷ places) (a ∷ left) (word ∷ words) u → IsNextWith a word (worker_by u.own_steps).probes
  next_of {n} {a} {word} {places} {left} {words} h = record {
    before = map answer done;
    rest = first_words places left words;
    first = n;
    answered = all_answers done;
    begun = all_first places left words;
    split = ap (λ (x : WorkerState). x.probes) h.stands;
  }

  pub looking : {places left words : List ℕ} {u : View} → Reads all low v0 v f done places left words u
      → (worker_by u.own_steps).phase ≡ LookingUp
  looking h = ap (λ (x : WorkerState). x.phase) h.stands
      ∙ ap (λ (x : WorkerState). x.phase) (gains_state (BeginLookup all low) v0 v h.begins)

  pub looks_for : {first second a word : ℕ} {places left words : List ℕ} {u : View}
      → Reads all low v0 v f done places (a ∷ left) (word ∷ words) u
      → v0.initial.first ≡ first → v0.initial.second ≡ second → LooksFor first second a word u
  looks_for {places = []} h is_first is_second = absurd (omega (arith, h.count))
  looks_for {first} {second} {a} {word} {places = n ∷ places} {left} {words} {u} h is_first is_second =
      let is = IsFirstWord (v.initial.first + v.initial.second) v.initial.second v.initial.seconds in
      record {
        fit = word_fits v0 v u first second word (gains_on (BeginLookup all low) v0 v h.begins) h.on is_first is_second
            (All-head is word words h.fit);
        looking = looking h;
        next = next_of h;
      }

  -- one more address has its answer
  pub answers : {a word last : ℕ} {places left words : List ℕ} {u s : View}
      → Reads all low v0 v f done places (a ∷ left) (word ∷ words) u → (loads : LoadsLast a word last u s)
      → Reads all low v0 v f (done ++ found a word last places loads.second ∷ []) (tail places) left words s
  unfolding next_of
  answers {places = []} h loads = absurd (omega (arith, h.count))
  answers {a} {word} {last} {places = n ∷ places} {left} {words} {u} {s} h loads =
      let x : AddressLookup = found a word last (n ∷ places) loads.second in
      record {
        begins = h.begins;
        count = omega (arith, h.count);
        fit = All-tail (IsFirstWord (v.initial.first + v.initial.second) v.initial.second v.initial.seconds) word words h.fit;
        stands = loads.state (next_of h)
            ∙ ap (λ (r : WorkerState). record r { probes = map answer done ++ answer x ∷ first_words places left words }) h.stands
            ∙ ap (λ (ps : List Probe). record (worker_by v.own_steps) { probes = ps })
            (answer_more done x (first_words places left words));
        firsts = subst (λ (steps : List (WorkerStep × ℕ)). GainsAt steps v f)
            (append_assoc (loads_first places words) ((LoadFirst word, n) ∷ []) (firsts_at done)
            ∙ ap (λ (steps : List (WorkerStep × ℕ)). loads_first places words ++ steps) (firsts_more done x)) h.firsts;
        seconds = subst (λ (steps : List (WorkerStep × ℕ)). GainsAt steps f s) (seconds_more done x)
            (goes_at (second_load loads.second) (seconds_at done) f u s loads.steps h.seconds);
        exact = All-push (λ x. IsReadOn (entry_in x.word) x.second x.hop) done x h.exact loads.exact;
        after = All-push (λ x. length v.writer_steps ≤ x.first) done x h.after
            (All-head (λ n. length v.writer_steps ≤ n) n places h.later);
        later = All-tail (λ n. length v.writer_steps ≤ n) n places h.later;
        on = goes_on v u s h.on loads.rest;
      }

  pub all_answered : {places : List ℕ} {s : View} → Reads all low v0 v f done places [] [] s
      → AreAnswered (worker_by s.own_steps).probes
  all_answered {places = n ∷ places} h = absurd (omega (arith, h.count))
  all_answered {places = []} h = subst (λ (x : WorkerState). AreAnswered x.probes) (sym h.stands)
      (subst AreAnswered (sym (append-nil (map answer done))) (all_answers done))

-- what the end of a lookup finishes
in_order : (lo hi : ℕ) (done : List AddressLookup) (old : List FinishedLookup)
    → with_answers lo hi (map answer done) old ≡ reverse_aux (map (seen_of lo hi) done) old
in_order lo hi [] old = refl
in_order lo hi (x ∷ done) old = in_order lo hi done (seen_of lo hi x ∷ old)

module _ (P : FinishedLookup → Type 0) (lo hi : ℕ) where
  kept : (done : List AddressLookup) (old : List FinishedLookup) → All P (reverse_aux (map (seen_of lo hi) done) old) → All P old
  kept [] old all = all
  kept (x ∷ done) old all = All-tail P (seen_of lo hi x) old (kept done (seen_of lo hi x ∷ old) all)

  each : (done : List AddressLookup) (old : List FinishedLookup) → All P (reverse_aux (map (seen_of lo hi) done) old)
      → All (λ x. P (seen_of lo hi x)) done
  each [] old all = All-nil (λ x. P (seen_of lo hi x))
  each (x ∷ done) old all = All-cons (λ x. P (seen_of lo hi x)) x done
      (All-head P (seen_of lo hi x) old (kept done (seen_of lo hi x ∷ old) all))
      (each done (seen_of lo hi x ∷ old) all)

module _ {all : List ℕ} {low high : ℕ} {v0 v f : View} {done : List AddressLookup} {s w : View} where
  pub looked_together : {places : List ℕ} {hops : List (Option ℕ)} {lo hi : ℕ} → Reads all low v0 v f done places [] [] s
      → Gains (EndLookup high) s w → IsSound v → IsSound w → map (λ (x : AddressLookup). x.addr) done ≡ all
      → map (λ (x : AddressLookup). x.hop) done ≡ hops → lo ≡ done_at low → hi ≡ begun_at high
      → LooksUpAll all hops lo hi v0 w
  looked_together {places = n ∷ places} h ends known_then known addrs_are hops_are lo_is hi_is = absurd (omega (arith, h.count))
  looked_together {places = []} {hops} {lo} {hi} h ends known_then known addrs_are hops_are lo_is hi_is =
      let old : List FinishedLookup = (worker_by v0.own_steps).finished in
      let began : GoesOn v0 v = gains_on (BeginLookup all low) v0 v h.begins in
      let loaded : GoesOn v0 s = goes_on v0 v s began h.on in
      let on : GoesOn v0 w = goes_on v0 s w loaded (gains_on (EndLookup high) s w ends) in
      let state : worker_by w.own_steps ≡ record (worker_by v0.own_steps) {
        phase = Online;
        lo = done_at low;
        probes = [];
        finished = with_answers (done_at low) (begun_at high) (map answer done) old;
      } = gains_state (EndLookup high) s w ends
      ∙ ap (λ (x : WorkerState). worker_by_step (length ends.writer_steps) x (EndLookup high))
      (h.stands ∙ ap (λ (ps : List Probe). record (worker_by v.own_steps) { probes = ps }) (append-nil (map answer done))
      ∙ ap (λ (x : WorkerState). record x { probes = map answer done }) (gains_state (BeginLookup all low) v0 v h.begins)) in
      let finished : (worker_by w.own_steps).finished ≡ reverse_aux (map (seen_of lo hi) done) old =
      ap (λ (x : WorkerState). x.finished) state ∙ in_order (done_at low) (begun_at high) done old
      ∙ (λ i. reverse_aux (map (seen_of (sym lo_is i) (sym hi_is i)) done) old) in
      let IsLegal : FinishedLookup → Type 0 = IsLegalAtPlace (initial_state_of v0.initial) w.writer_steps in
      let legal : All IsLegal (worker_by w.own_steps).finished = subst
      (λ (o : InitialData). All (IsLegalAtPlace (initial_state_of o) w.writer_steps) (worker_by w.own_steps).finished)
      (ap (λ (x : View). x.initial) on.same) known.legal in
      record {
        started = v;
        loaded = s;
        around = around all low high lo hi v0 v s w h.begins ends known_then known
            (ap (λ (x : View). x.initial) loaded.same) lo_is hi_is;
        found = done;
        steps = goes_at (seconds_at done) (firsts_at done) v f s h.seconds h.firsts;
        exact = h.exact;
        addrs_are = addrs_are;
        hops_are = hops_are;
        rest = on;
        online = ap (λ (x : WorkerState). x.phase) state;
        finished = finished ∙ reverse_aux-eq (map (seen_of lo hi) done) old;
        after = h.after;
        legal = each IsLegal lo hi done old (subst (All IsLegal) finished legal);
      }

-- ---- a lookup of one address

-- its loads, the newest first
pub both_loads : (word first : ℕ) (second : Option (ℕ × ℕ))
    → second_load second ++ (LoadFirst word, first) ∷ [] ≡ loads_at word first second
both_loads word first None = refl
both_loads word first (Some second) = refl

module _ {addr low high : ℕ} {v0 v f : View} {x : AddressLookup} {s w : View} where
  pub looked : {places : List ℕ} {hop : Option ℕ} {lo hi : ℕ} → Reads (addr ∷ []) low v0 v f (x ∷ []) places [] [] s
      → Gains (EndLookup high) s w → IsSound v → IsSound w → x.addr ≡ addr → x.hop ≡ hop → lo ≡ done_at low
      → hi ≡ begun_at high → LooksUp addr hop lo hi v0 w
  unfolding looked_together
  looked {places = n ∷ places} h ends known_then known addr_is hop_is lo_is hi_is = absurd (omega (arith, h.count))
  looked {places = []} {hop} {lo} {hi} h ends known_then known addr_is hop_is lo_is hi_is =
      let all : LooksUpAll (addr ∷ []) (hop ∷ []) lo hi v0 w = looked_together h ends known_then known
      (ap (λ a. a ∷ []) addr_is) (ap (λ (o : Option ℕ). o ∷ []) hop_is) lo_is hi_is in
      let IsLegal : FinishedLookup → Type 0 = IsLegalAtPlace (initial_state_of v0.initial) w.writer_steps in
      record {
        started = v;
        loaded = s;
        around = all.around;
        found = x;
        steps = subst (λ (steps : List (WorkerStep × ℕ)). GainsAt steps v s) (both_loads x.word x.first x.second) all.steps;
        exact = All-head (λ x. IsReadOn (entry_in x.word) x.second x.hop) x [] h.exact;
        answer = (addr_is, hop_is);
        rest = all.rest;
        online = all.online;
        finished = all.finished;
        after = All-head (λ x. length v.writer_steps ≤ x.first) x [] h.after;
        legal = All-head (λ x. IsLegal (seen_of lo hi x)) x [] all.legal;
      }
