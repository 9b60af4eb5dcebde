-- The lookups that a pass has finished, told by its steps.
use Rattle.std.proofs.Common.{ℕ, ◌≡◌, ◌≤◌, All, List, [], ◌∷◌, ◌++◌, length, Option, Some, None, ap, sym, subst, ◌∙◌, append_assoc, arith, ◌+◌, ◌-◌, take, drop, map}
use Rattle.std.proofs.lemmas.List.Elements.{All-cons, All-head, All-nil, All-tail}
use Rattle.lpm_cells.specs.declared.entry.Entry.{Entry}
use Rattle.lpm_cells.specs.declared.entry.Entry.TheVariants.{Miss, Hop, Group}
use Rattle.lpm_cells.specs.Words.{entry_in, hop_in}
use Rattle.lpm_trace.specs.declared.step.WriterStep.{WriterStep}
use Rattle.lpm_trace.specs.declared.step.WorkerStep.{WorkerStep}
use Rattle.lpm_trace.specs.declared.step.WorkerStep.TheVariants.{BeginLookup, LoadFirst, LoadSecond, EndLookup}
use Rattle.lpm_trace.specs.States.{InitialState, TableState, done_at, begun_at, oldest, state_at}
use Rattle.lpm_trace.specs.Trace.{FinishedLookup, MayRead, read_first, second_read, with_answers, worker_by}
use Rattle.lpm_trace.specs.Laws.{ArePlaced}
use Rattle.lpm_trace.proofs.Traces.{at_now}
use Rattle.shared_words.specs.Deeds.{AddressLookup, IsReadOn, loads_at, seen_of}
use Rattle.shared_words.proofs.Together.{both_loads}
use Rattle.std.proofs.lemmas.Option.{none-some, same_Some}
use Rattle.shared_fib.specs.RunningTable.{initial_state, hop_or}
use Rattle.shared_fib.specs.Passes.{PassState, IsHistory, LooksUp, LooksUpAll, Makes, IsAnswered}
use Rattle.shared_fib.proofs.Versions.{counts, written_then}
use Rattle.std.proofs.lemmas.List.{drop-drop, map-append}
use Rattle.std.specs.Prelude.{min, max}
use Rattle.shared_fib.specs.Bursts.{LooksUpBurst}

-- ---- what a lookup's loads finish

module _ (lo hi addr word first : ℕ) (hop : Option ℕ) (old : List FinishedLookup) where
  abbrev found : Option (ℕ × ℕ) → AddressLookup
  found second = record { addr = addr; hop = hop; word = word; first = first; second = second }

  abbrev finished : Option (ℕ × ℕ) → Option ℕ → List FinishedLookup
  finished second h = record (seen_of lo hi (found second)) { hop = h } ∷ old

  one_load : (e : Entry) → IsReadOn e None hop
      → with_answers lo hi (read_first first addr e ∷ []) old ≡ seen_of lo hi (found None) ∷ old
  one_load Miss exact = ap (finished None) (sym exact.1)
  one_load (Hop number depth) exact = ap (finished None) (sym exact.1)
  one_load (Group group) exact = absurd (none-some exact.0 exact.1)

  two_loads : (load : ℕ × ℕ) (e : Entry) → IsReadOn e (Some load) hop
      → with_answers lo hi (second_read load.1 (entry_in load.0) (read_first first addr e ∷ [])) old
      ≡ seen_of lo hi (found (Some load)) ∷ old
  two_loads load Miss exact = absurd (none-some load (sym exact.0))
  two_loads load (Hop number depth) exact = absurd (none-some load (sym exact.0))
  two_loads load (Group group) exact =
      let same : load ≡ exact.0 = same_Some load exact.0 exact.1 in
      ap (finished (Some load)) (ap (λ (x : ℕ × ℕ). hop_in (entry_in x.0)) same ∙ sym exact.2)

module _ (addr low high word first begins ends : ℕ) (hop : Option ℕ) (steps : List (WorkerStep × ℕ)) where
  abbrev one : Option (ℕ × ℕ) → AddressLookup
  one second = record { addr = addr; hop = hop; word = word; first = first; second = second }

  replayed : (second : Option (ℕ × ℕ)) → IsReadOn (entry_in word) second hop
      → (worker_by (((EndLookup high, ends) ∷ (loads_at word first second ++ (BeginLookup (addr ∷ []) low, begins) ∷ [])) ++ steps)).finished
      ≡ seen_of (done_at low) (begun_at high) (one second) ∷ (worker_by steps).finished
  replayed None exact = one_load (done_at low) (begun_at high) addr word first hop (worker_by steps).finished (entry_in word) exact
  replayed (Some load) exact =
      two_loads (done_at low) (begun_at high) addr word first hop (worker_by steps).finished load (entry_in word) exact

-- ---- what the sequence told

-- each step came at its place
placed_at : (c : InitialState) (w_steps : List WriterStep) (newer : List (WorkerStep × ℕ)) (s : WorkerStep × ℕ) (older : List (WorkerStep × ℕ))
    → ArePlaced c w_steps (newer ++ s ∷ older) → MayRead c (state_at c w_steps s.1) (worker_by older) s.0
placed_at c w_steps [] s older placed = placed.0
placed_at c w_steps (x ∷ newer) s older placed = placed_at c w_steps newer s older placed.1

-- a lookup is the newest that its pass has finished
pub finished_more : (addr : ℕ) (hop : Option ℕ) (lo hi : ℕ) (p q : PassState) (l : LooksUp addr hop lo hi p q) → IsHistory q
    → (worker_by q.steps).finished ≡ seen_of lo hi (record l.found { addr = addr }) ∷ (worker_by p.steps).finished
finished_more addr hop lo hi p q l history =
    let c : InitialState = initial_state q.table in
    let f : AddressLookup = record l.found { addr = addr } in
    let begin : WorkerStep × ℕ = (BeginLookup (addr ∷ []) l.low, l.begins) in
    let end : WorkerStep × ℕ = (EndLookup l.high, length q.writer_steps) in
    let placed : ArePlaced c q.writer_steps ((end ∷ (loads_at f.word f.first f.second ++ begin ∷ [])) ++ p.steps) =
    subst (ArePlaced c q.writer_steps) l.steps.steps history.placed in
    let again : ArePlaced c q.writer_steps ((end ∷ loads_at f.word f.first f.second) ++ begin ∷ p.steps) =
    subst (ArePlaced c q.writer_steps) (append_assoc (end ∷ loads_at f.word f.first f.second) (begin ∷ []) p.steps) placed in
    let began = placed_at c q.writer_steps (end ∷ loads_at f.word f.first f.second) begin p.steps again in
    let ended = placed.0 in
    let then = counts c (oldest l.begins q.writer_steps) (written_then c q.writer_steps l.begins history.written) in
    let now = counts c q.writer_steps history.written in
    let lo_is : done_at l.low ≡ lo = ap done_at began.2 ∙ (then.done_is ∙ sym l.done_then) in
    let hi_is : begun_at l.high ≡ hi = ap begun_at (ended.2 ∙ ap (λ (w : TableState). w.sequence) (at_now c q.writer_steps)) ∙ (now.begun_is ∙ sym l.begun_then) in
    ap (λ (own : List (WorkerStep × ℕ)). (worker_by own).finished) l.steps.steps
    ∙ (replayed addr l.low l.high f.word f.first l.begins (length q.writer_steps) f.hop p.steps f.second l.answer.exact
    ∙ λ i. seen_of (lo_is i) (hi_is i) f ∷ (worker_by p.steps).finished)

-- ---- places of its steps

pub all_front : {X : Type 0} (P : X → Type 0) (xs ys : List X) → All P (xs ++ ys) → All P xs
all_front P [] ys all = All-nil P
all_front P (x ∷ xs) ys all =
    All-cons P x xs (All-head P x (xs ++ ys) all) (all_front P xs ys (All-tail P x (xs ++ ys) all))

pub all_back : {X : Type 0} (P : X → Type 0) (xs ys : List X) → All P (xs ++ ys) → All P ys
all_back P [] ys all = all
all_back P (x ∷ xs) ys all = all_back P xs ys (All-tail P x (xs ++ ys) all)

pub all_last : {X : Type 0} (P : X → Type 0) (xs : List X) (x : X) → All P (xs ++ x ∷ []) → P x
all_last P xs x all = All-head P x [] (all_back P xs (x ∷ []) all)

first_load : (P : WorkerStep × ℕ → Type 0) (word first : ℕ) (second : Option (ℕ × ℕ)) → All P (loads_at word first second)
    → P (LoadFirst word, first)
first_load P word first None all = All-head P (LoadFirst word, first) [] all
first_load P word first (Some second) all =
    let older : List (WorkerStep × ℕ) = (LoadFirst word, first) ∷ [] in
    All-head P (LoadFirst word, first) [] (All-tail P (LoadSecond second.0, second.1) older all)

-- the first word is loaded after all that the pass had seen before
pub words_after : (addr : ℕ) (hop : Option ℕ) (lo hi : ℕ) (p q : PassState) (l : LooksUp addr hop lo hi p q)
    → length p.writer_steps ≤ l.found.first
words_after addr hop lo hi p q l =
    let is : WorkerStep × ℕ → Type 0 = λ s. (length p.writer_steps ≤ s.1) × (s.1 ≤ length q.writer_steps) in
    let begin : WorkerStep × ℕ = (BeginLookup (addr ∷ []) l.low, l.begins) in
    let end : WorkerStep × ℕ = (EndLookup l.high, length q.writer_steps) in
    let loads = all_front is (loads_at l.found.word l.found.first l.found.second) (begin ∷ [])
    (All-tail is end (loads_at l.found.word l.found.first l.found.second ++ begin ∷ []) l.steps.places) in
    (first_load is l.found.word l.found.first l.found.second loads).0

-- Bursts of addresses, one piece more.

-- a burst of one piece more
pub one_more : (addrs piece : List ℕ) (hops found : List (Option ℕ)) (lo hi first last : ℕ) (p r q : PassState)
    → LooksUpBurst addrs hops lo hi p r → LooksUpAll piece found first last r q
    → LooksUpBurst (addrs ++ piece) (hops ++ found) (min lo first) (max hi last) p q
one_more addrs piece hops found lo hi first last p r q burst this = record {
  pieces = record { addrs = piece; hops = found; lo = first; hi = last } ∷ burst.pieces;
  addrs_are = ap (λ (xs : List ℕ). xs ++ piece) burst.addrs_are;
  hops_are = ap (λ (xs : List (Option ℕ)). xs ++ found) burst.hops_are;
  lo_is = ap (λ n. min n first) burst.lo_is;
  hi_is = ap (λ n. max n last) burst.hi_is;
  steps = (r, burst.steps, this);
}

-- a lookup of one address is one of a list of one address
pub one_alone : (addr : ℕ) (hop : Option ℕ) (lo hi : ℕ) (p q : PassState)
    → LooksUp addr hop lo hi p q → LooksUpAll (addr ∷ []) (hop ∷ []) lo hi p q
one_alone addr hop lo hi p q h = record {
  low = h.low;
  begins = h.begins;
  found = h.found ∷ [];
  high = h.high;
  steps = subst (λ (loads : List (WorkerStep × ℕ)). Makes ((EndLookup h.high, length q.writer_steps) ∷ (loads ++ (BeginLookup (addr ∷ []) h.low, h.begins) ∷ [])) p q)
      (sym (both_loads h.found.word h.found.first h.found.second)) h.steps;
  addrs_are = ap (λ (a : ℕ). a ∷ []) h.result.0;
  hops_are = ap (λ (x : Option ℕ). x ∷ []) h.result.1;
  done_then = h.done_then;
  begun_then = h.begun_then;
  answers = All-cons (IsAnswered p.table q.writer_steps lo hi) h.found [] h.answer (All-nil (IsAnswered p.table q.writer_steps lo hi));
}

-- the addresses up to `at` were answered, and then those of one piece more
pub burst_after : (default : ℕ) (addrs hops new : List ℕ) (at next : ℕ) (lo hi first last least greatest : ℕ) (p r q : PassState)
    → ((found : List (Option ℕ)) × LooksUpBurst (take at addrs) found lo hi p r × (take at hops ≡ map (hop_or default) found))
    → ((piece : List ℕ) × (found : List (Option ℕ)) × LooksUpAll piece found first last r q
    × (take next addrs ≡ take at addrs ++ piece) × (take next new ≡ take at hops ++ map (hop_or default) found))
    → least ≡ min lo first → greatest ≡ max hi last
    → (found : List (Option ℕ)) × LooksUpBurst (take next addrs) found least greatest p q × (take next new ≡ map (hop_or default) found)
burst_after default addrs hops new at next lo hi first last least greatest p r q so this l g =
    let more = one_more (take at addrs) this.0 so.0 this.1 lo hi first last p r q so.1 this.2 in (
      so.0 ++ this.1,
      subst (λ (z : List ℕ × (ℕ × ℕ)). LooksUpBurst z.0 (so.0 ++ this.1) z.1.0 z.1.1 p q) (λ i. (sym this.3 i, (sym l i, sym g i))) more,
      this.4 ∙ ap (λ xs. xs ++ map (hop_or default) this.1) so.2 ∙ sym (map-append (hop_or default) so.0 this.1),
    )

-- what stands behind a later place is as it was, where that behind an earlier one is
pub rest_after : (new now old : List ℕ) (at next : ℕ) → at ≤ next → drop next new ≡ drop next now → drop at now ≡ drop at old
    → drop next new ≡ drop next old
rest_after new now old at next low this so =
    let gap : at + (next - at) ≡ next = omega (arith, low) in
    let further : (xs : List ℕ) → drop (next - at) (drop at xs) ≡ drop next xs =
    λ xs. drop-drop (next - at) at xs ∙ ap (λ n. drop n xs) gap in
    this ∙ (sym (further now) ∙ (ap (drop (next - at)) so ∙ further old))
