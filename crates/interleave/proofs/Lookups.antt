-- The steps of a lookup: a first word, a second word.
use Rattle.std.proofs.Common.{arith, ◌≡◌, ℕ, zero, suc, ◌+◌, ◌<◌, List, [], ◌∷◌, ◌++◌, length, take, drop, map, get_or, refl, sym, ap, subst, ◌∙◌, length-take, append_assoc, reverse, Option, ◌*◌, ◌/◌, ◌%◌, ◌^◌, ◌≤◌, All, slice_index, slice_set}
use Rattle.std.proofs.Math.Seq.{split_at}
use Rattle.std.proofs.lemmas.List.{take_more, append-nil, map-append, reverse-append, set_at}
use Rattle.lpm_cells.specs.Words.{entry_in, hop_in, Words}
use Rattle.lpm_trace.specs.Trace.{AreBegun, AreAnswered, FinishedLookup, Worker, worker_by_step, with_answers, Probe as TraceProbe, LookingUp, read_first, first_read, second_read, IsNextFirst, IsNextSecond}
use Rattle.lpm_trace.specs.States.{begun_at, InitialState, TableState}
use Rattle.lpm_trace.specs.declared.step.WorkerStep.{WorkerStep}
use Rattle.interleave.specs.declared.finished_lookups.Seen.{Seen as Noted}
use Rattle.interleave.specs.Record.{seen_by, finished_by, step_of_worker, next_first, next_second}
use Rattle.interleave.specs.declared.probe.Probe.{Probe}
use Rattle.interleave.specs.declared.probe.Probe.TheVariants.{Unread, InGroup, Answered}
use Rattle.interleave.specs.Machine.{probe_of, probes_of, IsNextUnread, IsNextGrouped, Shows, Makes, ContinuesDeed, IsInRange, IsOf, phase_of}
use Rattle.std.proofs.lemmas.List.Elements.{All-head, All-tail}
use Rattle.lpm_cells.specs.declared.entry.Entry.{Entry}
use Rattle.lpm_trace.specs.declared.shown_step.Step.{Step}
use Rattle.interleave.specs.declared.probe.Grouped.{Grouped}
use Rattle.interleave.specs.declared.worker.Worker.{Worker as Machine}
use Rattle.lpm_trace.specs.Trace as T
use Rattle.lpm_trace.specs.declared.step.WorkerStep.TheVariants as step
use Rattle.lpm_trace.specs.declared.shown_step.Kind.TheVariants as kind
use Rattle.interleave.specs.declared.worker.Phase.TheVariants as phase

-- The addresses of a lookup: which is next, and what a read leaves.

begun_push : (xs : List Probe) (p : Probe) → AreBegun (probes_of xs) → AreBegun (probe_of p ∷ []) → AreBegun (probes_of (xs ++ p ∷ []))
begun_push [] p h k = k
begun_push (Unread a ∷ xs) p h k = absurd h
begun_push (x ∷ xs) p h k = begun_push xs p h k

answered_push : (xs : List Probe) (p : Probe) → AreAnswered (probes_of xs) → AreAnswered (probe_of p ∷ []) → AreAnswered (probes_of (xs ++ p ∷ []))
answered_push [] p h k = k
answered_push (Answered a x f l ∷ xs) p h k = answered_push xs p h k
answered_push (x ∷ xs) p h k = absurd h

begun_one : (p : Probe) → ((a : ℕ) → p ≡ Unread a → ⊥) → AreBegun (probe_of p ∷ [])
begun_one (Unread a) not = not a refl
begun_one p not = tt

read_at : (xs : List Probe) (i : ℕ) (d : Probe) → i < length xs → AreBegun (probes_of xs) → AreBegun (probe_of (get_or xs i d) ∷ [])
read_at [] i d l h = absurd (omega (arith, l))
read_at (Unread a ∷ xs) i d l h = absurd h
read_at (x ∷ xs) zero d l h = tt
read_at (x ∷ xs) (suc i) d l h = read_at xs i d (omega (arith, l)) h

answered_one : (p : Probe) → AreBegun (probe_of p ∷ []) → ((a g f : ℕ) → p ≡ InGroup a g f → ⊥) → AreAnswered (probe_of p ∷ [])
answered_one (Unread a) h not = absurd h
answered_one (InGroup a g f) h not = not a g f refl
answered_one (Answered a x f l) h not = tt

-- ---- the search for the next address

pub begun_more : (xs : List Probe) (i : ℕ) (d p : Probe) → i < length xs → p ≡ get_or xs i d → AreBegun (probes_of (take i xs)) → ((a : ℕ) → p ≡ Unread a → ⊥)
    → AreBegun (probes_of (take (i + 1) xs))
begun_more xs i d p l is h not =
    rw (take_more xs i d l, ← is) (begun_push (take i xs) p h (begun_one p not))

pub answered_more : (xs : List Probe) (i : ℕ) (d p : Probe) → i < length xs → p ≡ get_or xs i d → AreBegun (probes_of xs) → AreAnswered (probes_of (take i xs)) → ((a g f : ℕ) → p ≡ InGroup a g f → ⊥)
    → AreAnswered (probes_of (take (i + 1) xs))
answered_more xs i d p l is all h not =
    let read : AreBegun (probe_of p ∷ []) = subst (λ (q : Probe). AreBegun (probe_of q ∷ [])) (sym is) (read_at xs i d l all) in
    rw (take_more xs i d l, ← is) (answered_push (take i xs) p h (answered_one p read not))

pub unread_at : (xs : List Probe) (i a : ℕ) (d p : Probe) → i < length xs → p ≡ get_or xs i d → p ≡ Unread a → AreBegun (probes_of (take i xs)) → IsNextUnread xs i a
unread_at xs i a d p l is e h = record {
  before = take i xs;
  after = drop (suc i) xs;
  split = split_at xs i d l ∙ ap (λ (q : Probe). take i xs ++ q ∷ drop (suc i) xs) (sym is ∙ e);
  count = omega (arith, length-take i xs);
  begun = h;
}

pub grouped_at : (xs : List Probe) (i a g f : ℕ) (d p : Probe) → i < length xs → p ≡ get_or xs i d → p ≡ InGroup a g f → AreAnswered (probes_of (take i xs))
    → IsNextGrouped xs (record { place = i; addr = a; group = g; first = f })
grouped_at xs i a g f d p l is e h = record {
  before = take i xs;
  after = drop (suc i) xs;
  split = split_at xs i d l ∙ ap (λ (q : Probe). take i xs ++ q ∷ drop (suc i) xs) (sym is ∙ e);
  count = omega (arith, length-take i xs);
  answered = h;
}

-- ---- the answers of a lookup that ends

-- they come after those before
answers_after : (lo hi : ℕ) (ps : List TraceProbe) (before : List FinishedLookup) → with_answers lo hi ps before ≡ with_answers lo hi ps [] ++ before
answers_after lo hi [] before = refl
answers_after lo hi (T.Answered a x f l ∷ ps) before =
    let s : FinishedLookup = record { addr = a; hop = x; first = f; last = l; lo = lo; hi = hi } in
    answers_after lo hi ps (s ∷ before) ∙ sym (append_assoc (with_answers lo hi ps []) (s ∷ []) before) ∙ ap (λ (xs : List FinishedLookup). xs ++ before) (sym (answers_after lo hi ps (s ∷ [])))
answers_after lo hi (p ∷ ps) before = answers_after lo hi ps before

-- of more addresses
answers_push : (lo hi : ℕ) (ps qs : List TraceProbe) (before : List FinishedLookup) → with_answers lo hi (ps ++ qs) before ≡ with_answers lo hi qs (with_answers lo hi ps before)
answers_push lo hi [] qs before = refl
answers_push lo hi (T.Answered a x f l ∷ ps) qs before = answers_push lo hi ps qs _
answers_push lo hi (p ∷ ps) qs before = answers_push lo hi ps qs before

-- the answers to these addresses of worker k, in order
abbrev pub noted : ℕ → ℕ → ℕ → List Probe → List Noted
noted k lo hi xs = reverse (map (seen_by k) (with_answers lo hi (probes_of xs) []))

noted_push : (k lo hi : ℕ) (xs : List Probe) (p : Probe) → noted k lo hi (xs ++ p ∷ []) ≡ noted k lo hi xs ++ noted k lo hi (p ∷ [])
noted_push k lo hi xs p =
    let split : with_answers lo hi (probes_of (xs ++ p ∷ [])) [] ≡ with_answers lo hi (probes_of (p ∷ [])) [] ++ with_answers lo hi (probes_of xs) [] =
    ap (λ (ps : List TraceProbe). with_answers lo hi ps []) (map-append probe_of xs (p ∷ [])) ∙ answers_push lo hi (probes_of xs) (probes_of (p ∷ [])) [] ∙ answers_after lo hi (probes_of (p ∷ [])) (with_answers lo hi (probes_of xs) []) in
    ap (λ (ss : List FinishedLookup). reverse (map (seen_by k) ss)) split
    ∙ ap reverse (map-append (seen_by k) (with_answers lo hi (probes_of (p ∷ [])) []) (with_answers lo hi (probes_of xs) []))
    ∙ reverse-append (map (seen_by k) (with_answers lo hi (probes_of (p ∷ [])) [])) (map (seen_by k) (with_answers lo hi (probes_of xs) []))

pub noted_answer : (k lo hi : ℕ) (xs : List Probe) (i : ℕ) (d p : Probe) (old before after : List Noted) (a x : ℕ) (h : Option ℕ) (f l : ℕ) → i < length xs → p ≡ get_or xs i d → p ≡ Answered a x f l → h ≡ hop_in (entry_in x)
    → before ≡ old ++ noted k lo hi (take i xs) → after ≡ before ++ record { worker = k; addr = a; hop = h; first = f; last = l; lo = lo; hi = hi } ∷ []
    → after ≡ old ++ noted k lo hi (take (i + 1) xs)
noted_answer k lo hi xs i d p old before after a x h f l inside is e hop was now =
    let more : take (i + 1) xs ≡ take i xs ++ Answered a x f l ∷ [] = take_more xs i d inside ∙ ap (λ (q : Probe). take i xs ++ q ∷ []) (sym is ∙ e) in
    let s : Noted = record { worker = k; addr = a; hop = hop_in (entry_in x); first = f; last = l; lo = lo; hi = hi } in
    now ∙ ap (λ (y : Option ℕ). before ++ record { worker = k; addr = a; hop = y; first = f; last = l; lo = lo; hi = hi } ∷ []) hop ∙ ap (λ (ss : List Noted). ss ++ s ∷ []) was ∙ append_assoc old (noted k lo hi (take i xs)) (s ∷ []) ∙ ap (λ (ss : List Noted). old ++ ss) (sym (ap (noted k lo hi) more ∙ noted_push k lo hi (take i xs) (Answered a x f l)))

unanswered : (k lo hi : ℕ) (q : Probe) → ((a x f l : ℕ) → q ≡ Answered a x f l → ⊥) → noted k lo hi (q ∷ []) ≡ []
unanswered k lo hi (Answered a x f l) not = absurd (not a x f l refl)
unanswered k lo hi q not = refl

pub noted_none : (k lo hi : ℕ) (xs : List Probe) (i : ℕ) (d p : Probe) (old before : List Noted) → i < length xs → p ≡ get_or xs i d → ((a x f l : ℕ) → p ≡ Answered a x f l → ⊥)
    → before ≡ old ++ noted k lo hi (take i xs) → before ≡ old ++ noted k lo hi (take (i + 1) xs)
noted_none k lo hi xs i d p old before inside is not was =
    let more : take (i + 1) xs ≡ take i xs ++ p ∷ [] = take_more xs i d inside ∙ ap (λ (q : Probe). take i xs ++ q ∷ []) (sym is) in
    was ∙ ap (λ (ss : List Noted). old ++ ss) (sym (ap (noted k lo hi) more ∙ noted_push k lo hi (take i xs) p ∙ ap (λ (ss : List Noted). noted k lo hi (take i xs) ++ ss) (unanswered k lo hi p not) ∙ append-nil _))

-- ---- the lookups that are finished

-- a step's come before those of the steps before it
pub finished_then : (now : ℕ) (r : Worker) (s : WorkerStep) → (worker_by_step now r s).finished ≡ finished_by r s ++ r.finished
finished_then now r (step.EndLookup sequence) = answers_after r.lo (begun_at sequence) r.probes r.finished
finished_then now r s = refl

-- ---- the next address, by the place where it stands

module _ (a : ℕ) (after : List Probe) where
  next_first_is : (c : InitialState) (before : List Probe) → AreBegun (probes_of before) → next_first c (probes_of (before ++ Unread a ∷ after)) ≡ a / 2 ^ c.second
  next_first_is c [] b = refl
  next_first_is c (Unread x ∷ before) b = absurd b
  next_first_is c (x ∷ before) b = next_first_is c before b

  is_next_first : (c : InitialState) (w : TableState) (word : ℕ) → word ≡ slice_index w.words.firsts (a / 2 ^ c.second) → (before : List Probe) → AreBegun (probes_of before)
      → IsNextFirst c w word (probes_of (before ++ Unread a ∷ after))
  is_next_first c w word is [] b = is
  is_next_first c w word is (Unread x ∷ before) b = absurd b
  is_next_first c w word is (x ∷ before) b = is_next_first c w word is before b

  first_read_is : (now : ℕ) (e : Entry) (p : Probe) → probe_of p ≡ read_first now a e → (before : List Probe) → AreBegun (probes_of before)
      → first_read now e (probes_of (before ++ Unread a ∷ after)) ≡ probes_of (before ++ p ∷ after)
  first_read_is now e p is [] b = ap (λ q. q ∷ probes_of after) (sym is)
  first_read_is now e p is (Unread x ∷ before) b = absurd b
  first_read_is now e p is (x ∷ before) b = ap (λ ps. probe_of x ∷ ps) (first_read_is now e p is before b)

module _ (a g f : ℕ) (after : List Probe) where
  next_second_is : (c : InitialState) (before : List Probe) → AreAnswered (probes_of before) → next_second c (probes_of (before ++ InGroup a g f ∷ after)) ≡ g * 2 ^ c.second + a % 2 ^ c.second
  next_second_is c [] b = refl
  next_second_is c (Answered x h y z ∷ before) b = next_second_is c before b
  next_second_is c (x ∷ before) b = absurd b

  is_next_second : (c : InitialState) (w : TableState) (word : ℕ) → word ≡ slice_index w.words.seconds (g * 2 ^ c.second + a % 2 ^ c.second) → (before : List Probe) → AreAnswered (probes_of before)
      → IsNextSecond c w word (probes_of (before ++ InGroup a g f ∷ after))
  is_next_second c w word is [] b = is
  is_next_second c w word is (Answered x h y z ∷ before) b = is_next_second c w word is before b
  is_next_second c w word is (x ∷ before) b = absurd b

  second_read_is : (now word : ℕ) (before : List Probe) → AreAnswered (probes_of before)
      → second_read now (entry_in word) (probes_of (before ++ InGroup a g f ∷ after)) ≡ probes_of (before ++ Answered a word f now ∷ after)
  second_read_is now word [] b = refl
  second_read_is now word (Answered x h y z ∷ before) b = ap (λ ps. probe_of (Answered x h y z) ∷ ps) (second_read_is now word before b)
  second_read_is now word (x ∷ before) b = absurd b

-- ---- the step

-- the same machine with other addresses
pub record HasProbes (m new : Machine) (items : List Probe) : Type 0 where
  pub counter : new.counter ≡ m.counter
  pub phase : new.phase ≡ m.phase
  pub lo : new.lo ≡ m.lo
  pub probes : new.probes.items ≡ items

module _ (c : InitialState) (w : TableState) (k now : ℕ) (r : Worker) (m new : Machine) (first second : ℕ) (words : Words) (sequence token : ℕ) (shown : Step) (of : IsOf first second words sequence token c w) (shows : Shows m r) (doing : r.phase ≡ LookingUp) where
  pub first_made : (place a word : ℕ) (p : Probe) → IsNextUnread m.probes.items place a → probe_of p ≡ read_first now a (entry_in word) → HasProbes m new (slice_set m.probes.items place p)
      → word ≡ slice_index words.firsts (a / 2 ^ second) → shown ≡ step_of_worker k kind.LoadFirst (a / 2 ^ second) word → Makes c w k now r (step.LoadFirst word) new shown
  first_made place a word p next read has is told =
      let was : r.probes ≡ probes_of (next.before ++ Unread a ∷ next.after) = shows.probes ∙ ap probes_of next.split in
      let set : new.probes.items ≡ next.before ++ p ∷ next.after = has.probes ∙ ap (λ ps. slice_set ps place p) next.split ∙ set_at next.before (Unread a) next.after p place next.count in
      let place_is : a / 2 ^ c.second ≡ a / 2 ^ second = ap (λ n. a / 2 ^ n) of.second_width in record {
        may = (doing, subst (IsNextFirst c w word) (sym was) (is_next_first a next.after c w word (is ∙ ap (λ i. slice_index words.firsts i) (sym place_is) ∙ ap (λ (ws : Words). slice_index ws.firsts (a / 2 ^ c.second)) (sym of.words_are)) next.before next.begun));
        shows = record {
          counter = shows.counter ∙ sym has.counter;
          phase = shows.phase ∙ ap phase_of (sym has.phase);
          lo = shows.lo ∙ sym has.lo;
          probes = ap (first_read now (entry_in word)) was ∙ first_read_is a next.after now (entry_in word) p read next.before next.begun ∙ ap probes_of (sym set);
        };
        shown = told ∙ ap (λ i. step_of_worker k kind.LoadFirst i word) (sym (ap (next_first c) was ∙ next_first_is a next.after c next.before next.begun ∙ place_is));
      }

  pub second_made : (found : Grouped) (word : ℕ) → AreBegun (probes_of m.probes.items) → IsNextGrouped m.probes.items found
      → HasProbes m new (slice_set m.probes.items found.place (Answered found.addr word found.first now))
      → word ≡ slice_index words.seconds (found.group * 2 ^ second + found.addr % 2 ^ second) → shown ≡ step_of_worker k kind.LoadSecond (found.group * 2 ^ second + found.addr % 2 ^ second) word
      → Makes c w k now r (step.LoadSecond word) new shown
  second_made found word begun next has is told =
      let a = found.addr in
      let g = found.group in
      let p = Answered a word found.first now in
      let was : r.probes ≡ probes_of (next.before ++ InGroup a g found.first ∷ next.after) = shows.probes ∙ ap probes_of next.split in
      let set : new.probes.items ≡ next.before ++ p ∷ next.after = has.probes ∙ ap (λ ps. slice_set ps found.place p) next.split ∙ set_at next.before (InGroup a g found.first) next.after p found.place next.count in
      let place_is : g * 2 ^ c.second + a % 2 ^ c.second ≡ g * 2 ^ second + a % 2 ^ second = ap (λ n. g * 2 ^ n + a % 2 ^ n) of.second_width in record {
        may = (
          doing,
          subst AreBegun (sym shows.probes) begun,
          subst (IsNextSecond c w word) (sym was) (is_next_second a g found.first next.after c w word (is ∙ ap (λ i. slice_index words.seconds i) (sym place_is) ∙ ap (λ (ws : Words). slice_index ws.seconds (g * 2 ^ c.second + a % 2 ^ c.second)) (sym of.words_are)) next.before next.answered),
        );
        shows = record {
          counter = shows.counter ∙ sym has.counter;
          phase = shows.phase ∙ ap phase_of (sym has.phase);
          lo = shows.lo ∙ sym has.lo;
          probes = ap (second_read now (entry_in word)) was ∙ second_read_is a g found.first next.after now word next.before next.answered ∙ ap probes_of (sym set);
        };
        shown = told ∙ ap (λ i. step_of_worker k kind.LoadSecond i word) (sym (ap (next_second c) was ∙ next_second_is a g found.first next.after c next.before next.answered ∙ place_is));
      }

-- ---- the end of a lookup

module _ (c : InitialState) (w : TableState) (k now : ℕ) (r : Worker) (m new : Machine) (sequence : ℕ) (shown : Step) (before after : List Noted) where
  pub ended : AreAnswered (probes_of m.probes.items) → w.sequence ≡ sequence → Shows m r → r.phase ≡ LookingUp
      → new.counter ≡ m.counter → new.phase ≡ phase.Online → new.lo ≡ m.lo → new.probes.items ≡ [] → shown ≡ step_of_worker k kind.LoadSequence 0 sequence
      → after ≡ before ++ noted k m.lo (begun_at sequence) m.probes.items → ContinuesDeed c w k now r new shown before after
  ended answered same shows doing counter rests lo none told notes = record {
    made = step.EndLookup sequence;
    goes = tt;
    makes = record {
      may = (doing, subst AreAnswered (sym shows.probes) answered, sym same);
      shows = record {
        counter = shows.counter ∙ sym counter;
        phase = sym (ap phase_of rests);
        lo = shows.lo ∙ sym lo;
        probes = ap probes_of (sym none);
      };
      shown = told;
    };
    noted = notes ∙ ap (λ (ps : List TraceProbe). before ++ reverse (map (seen_by k) (with_answers m.lo (begun_at sequence) ps []))) (sym shows.probes)
        ∙ ap (λ (l : ℕ). before ++ reverse (map (seen_by k) (with_answers l (begun_at sequence) r.probes []))) (sym shows.lo);
  }

-- ---- addresses in range

unread_in : (n second seconds a : ℕ) (after before : List Probe) → All (IsInRange n second seconds) (probes_of (before ++ Unread a ∷ after)) → a < n
unread_in n second seconds a after [] all = All-head (IsInRange n second seconds) _ _ all
unread_in n second seconds a after (p ∷ before) all = unread_in n second seconds a after before (All-tail (IsInRange n second seconds) _ _ all)

grouped_in : (n second seconds a g f : ℕ) (after before : List Probe) → All (IsInRange n second seconds) (probes_of (before ++ InGroup a g f ∷ after))
    → (a < n) × (g * 2 ^ second + 2 ^ second ≤ seconds)
grouped_in n second seconds a g f after [] all = All-head (IsInRange n second seconds) _ _ all
grouped_in n second seconds a g f after (p ∷ before) all = grouped_in n second seconds a g f after before (All-tail (IsInRange n second seconds) _ _ all)

pub unread_in_range : (n second seconds : ℕ) (items : List Probe) (place a : ℕ) → IsNextUnread items place a → All (IsInRange n second seconds) (probes_of items) → a < n
unread_in_range n second seconds items place a next all =
    unread_in n second seconds a next.after next.before (subst (λ ps. All (IsInRange n second seconds) (probes_of ps)) next.split all)

pub grouped_in_range : (n second seconds : ℕ) (items : List Probe) (found : Grouped) → IsNextGrouped items found → All (IsInRange n second seconds) (probes_of items)
    → found.group * 2 ^ second + 2 ^ second ≤ seconds
grouped_in_range n second seconds items found next all =
    (grouped_in n second seconds found.addr found.group found.first next.after next.before (subst (λ ps. All (IsInRange n second seconds) (probes_of ps)) next.split all)).1
