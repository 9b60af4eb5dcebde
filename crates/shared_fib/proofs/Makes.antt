-- What a seat gains is what its pass makes.
use Rattle.std.proofs.Common.{ℕ, ◌≡◌, ◌≤◌, Bool, All, List, [], ◌∷◌, ◌++◌, length, get_or, Option, refl, ap, sym, subst, ◌∙◌, arith}
use Rattle.std.proofs.lemmas.List.Elements.{All-cons, All-nil}
use Rattle.atomic_table.specs.Seated.{TableId}
use Rattle.lpm_cells.specs.Words.{entry_in}
use Rattle.lpm_trace.specs.declared.step.WriterStep.{WriterStep}
use Rattle.lpm_trace.specs.declared.step.WorkerStep.{WorkerStep}
use Rattle.lpm_trace.specs.declared.step.WorkerStep.TheVariants.{BeginLookup, EndLookup}
use Rattle.lpm_trace.specs.States.{InitialState, version, updates_done_in, updates_begun_in, oldest, state_after, state_at}
use Rattle.lpm_trace.specs.Writer.{IsWritten}
use Rattle.lpm_trace.specs.Trace.{FinishedLookup}
use Rattle.lpm_trace.specs.Laws.{IsLegalAtPlace}
use Rattle.lpm_trace.proofs.Traces.{oldest_all}
use Rattle.lpm_trace.proofs.Promises.{versions_never_fall_at_places}
use Rattle.shared_words.specs.declared.view.View.{View}
use Rattle.shared_words.specs.Layout.{InitialData, initial_state_of}
use Rattle.shared_words.specs.Rule.{IsLater}
use Rattle.shared_words.specs.Seats.{IsSound, Gains, WorkerAt}
use Rattle.shared_words.specs.Deeds.{AddressLookup, IsReadOn, firsts_at, loads_at, seconds_at, seen_of, GainsAll, GainsAt, GoesOn, LoadsAround, LooksUp as DeedLooksUp, LooksUpAll as DeedLooksUpAll}
use Rattle.shared_words.proofs.Deeds.{all_at, gains_on, goes_at, goes_on, later_trans, later_longer}
use Rattle.shared_fib.specs.Versions.{updates_begun, updates_done}
use Rattle.shared_fib.specs.Passes.{PassState, Makes, IsAnswered, IsHopOfVersion, LooksUp, LooksUpAll}
use Rattle.shared_fib.proofs.Versions.{beginning_of, counts, written_then, history_has_rules}

-- what a view gains by these steps
pub record Made (made : List (WorkerStep × ℕ)) (v w : View) : Type 0 where
  pub own_steps : w.own_steps ≡ made ++ v.own_steps
  pub places : All (λ s. (length v.writer_steps ≤ s.1) × (s.1 ≤ length w.writer_steps)) made
  pub writer_steps : IsLater v.writer_steps w.writer_steps
  pub initial : w.initial ≡ v.initial

pub made_none : (v w : View) → w ≡ v → Made [] v w
made_none v w same = record {
  own_steps = ap (λ (x : View). x.own_steps) same;
  places = All-nil (λ (s : WorkerStep × ℕ). (length v.writer_steps ≤ s.1) × (s.1 ≤ length w.writer_steps));
  writer_steps = subst (λ (x : View). IsLater v.writer_steps x.writer_steps) (sym same) ([], refl);
  initial = ap (λ (x : View). x.initial) same;
}

-- one more step
pub made_more : (made : List (WorkerStep × ℕ)) (s : WorkerStep) (v u w : View) → Made made v u → (g : Gains s u w)
    → Made ((s, length g.writer_steps) ∷ made) v w
made_more made s v u w m g =
    let on : GoesOn u w = gains_on s u w g in
    let here : ℕ = length g.writer_steps in
    let same : w.writer_steps ≡ g.writer_steps = ap (λ (x : View). x.writer_steps) g.view in
    let is : WorkerStep × ℕ → Type 0 = λ x. (length v.writer_steps ≤ x.1) × (x.1 ≤ length w.writer_steps) in
    let old : length v.writer_steps ≤ length u.writer_steps = later_longer v.writer_steps u.writer_steps m.writer_steps in
    let new_on : length u.writer_steps ≤ length w.writer_steps = later_longer u.writer_steps w.writer_steps on.later in
    let count : length w.writer_steps ≡ here = ap length same in
    record {
      own_steps = ap (λ (x : View). x.own_steps) g.view ∙ ap (λ (l : List (WorkerStep × ℕ)). (s, here) ∷ l) m.own_steps;
      places = All-cons is (s, here) made (omega (arith, old, new_on, count), omega (arith, count))
          (λ i d low. let h = m.places i d low in (h.0, omega (arith, h.1, new_on)));
      writer_steps = later_trans v.writer_steps u.writer_steps w.writer_steps m.writer_steps on.later;
      initial = ap (λ (x : View). x.initial) on.same ∙ m.initial;
    }

-- steps one after another, each at its place
pub made_at : (steps : List (WorkerStep × ℕ)) (v w : View) → GainsAt steps v w → Made steps v w
made_at [] v w same = made_none v w same
made_at (s ∷ steps) v w more =
    subst (λ (n : ℕ). Made ((s.0, n) ∷ steps) v w) (sym more.3)
    (made_more steps s.0 v more.0 w (made_at steps v more.0 more.1) more.2)

-- the pass of a seat
abbrev pub state : WorkerAt → Bool → PassState
state s online = record {
  table = record { words = s.table; initial = s.view.initial };
  worker = s.worker;
  online = online;
  steps = s.view.own_steps;
  writer_steps = s.view.writer_steps;
}

pub makes : (on on' : Bool) (made : List (WorkerStep × ℕ)) (s s' : WorkerAt) (p : PassState) → state s on ≡ p
    → s'.table ≡ s.table → s'.worker ≡ s.worker → Made made s.view s'.view → Makes made p (state s' on')
makes on on' made s s' p is table worker m =
    subst (λ (q : PassState). Makes made q (state s' on')) is (record {
      steps = m.own_steps;
      places = m.places;
      writer_steps = m.writer_steps;
      table = λ i. record { words = table i; initial = m.initial i };
      worker = worker;
    })

-- one step, and two
pub makes_one : (on on' : Bool) (r : WorkerStep) (s s' : WorkerAt) (p : PassState) → state s on ≡ p
    → s'.table ≡ s.table → s'.worker ≡ s.worker → GainsAll (r ∷ []) s.view s'.view
    → (place : ℕ) × Makes ((r, place) ∷ []) p (state s' on')
makes_one on on' r s s' p is table worker g = (
  length g.2.writer_steps,
  makes on on' ((r, length g.2.writer_steps) ∷ []) s s' p is table worker
      (made_more [] r s.view g.0 s'.view (made_none s.view g.0 g.1) g.2),
)

pub makes_two : (on on' : Bool) (r t : ℕ → WorkerStep) (s s' : WorkerAt) (p : PassState) → state s on ≡ p
    → s'.table ≡ s.table → s'.worker ≡ s.worker → ((token : ℕ) × GainsAll (t token ∷ r token ∷ []) s.view s'.view)
    → (token : ℕ) × (first : ℕ) × (last : ℕ) × Makes ((t token, last) ∷ (r token, first) ∷ []) p (state s' on')
makes_two on on' r t s s' p is table worker steps =
    let g : GainsAll (t steps.0 ∷ r steps.0 ∷ []) s.view s'.view = steps.1 in
    let first : ℕ = length g.1.2.writer_steps in (
      steps.0,
      first,
      length g.2.writer_steps,
      makes on on' ((t steps.0, length g.2.writer_steps) ∷ (r steps.0, first) ∷ []) s s' p is table worker
          (made_more ((r steps.0, first) ∷ []) (t steps.0) s.view g.0 s'.view
          (made_more [] (r steps.0) s.view g.1.0 g.0 (made_none s.view g.1.0 g.1.1) g.1.2) g.2),
    )

-- a legal lookup is that of a version
pub of_version : (table : TableId) (o : InitialData) (w_steps : List WriterStep) (l : FinishedLookup) → IsWritten (initial_state_of o) w_steps
    → (h : IsLegalAtPlace (initial_state_of o) w_steps l)
    → IsHopOfVersion (record { words = table; initial = o }) w_steps l.addr l.hop h.place
    (version (state_at (initial_state_of o) w_steps h.place) l.addr)
of_version table o w_steps l written h =
    let c : InitialState = initial_state_of o in
    let place : ℕ = h.place in
    let stands = versions_never_fall_at_places c w_steps l.addr place place (omega arith) in
    let then = counts c (oldest place w_steps) (written_then c w_steps place written) in
    let rises = versions_never_fall_at_places c w_steps l.addr place (length w_steps) (omega (arith, h.to, h.within)) in
    let last : version (state_at c w_steps (length w_steps)) l.addr ≤ updates_begun_in (state_after c w_steps) = subst
    (λ (xs : List WriterStep). version (state_at c w_steps (length w_steps)) l.addr ≤ updates_begun_in (state_after c xs))
    (oldest_all w_steps (length w_steps) (omega arith))
    (versions_never_fall_at_places c w_steps l.addr (length w_steps) (length w_steps) (omega arith)).1 in
    record {
      rules = (state_after c w_steps).history (version (state_at c w_steps place) l.addr);
      version = (history_has_rules c w_steps written).each (version (state_at c w_steps place) l.addr) (omega (arith, rises.2, last));
      within = omega (arith, h.to, h.within);
      done = omega (arith, stands.0, then.done_is);
      begun = omega (arith, stands.1, then.begun_is);
      answers = h.answers;
    }

-- ---- a lookup

-- an address with a legal lookup is answered by a version
is_answered : (table : TableId) (o : InitialData) (w_steps : List WriterStep) (lo hi : ℕ) (f : AddressLookup) → IsWritten (initial_state_of o) w_steps
    → IsReadOn (entry_in f.word) f.second f.hop → IsLegalAtPlace (initial_state_of o) w_steps (seen_of lo hi f)
    → IsAnswered (record { words = table; initial = o }) w_steps lo hi f
is_answered table o w_steps lo hi f written exact h = record {
  exact = exact;
  place = h.place;
  version = version (state_at (initial_state_of o) w_steps h.place) f.addr;
  answer = of_version table o w_steps (seen_of lo hi f) written h;
  stood = (h.from, h.to);
  within = (h.low, h.high);
}

-- the loads of the sequence round the loads of words
module _ (addrs : List ℕ) (lo hi : ℕ) (v b u w : View) (around : LoadsAround addrs lo hi v b u w)
    (loads : List (WorkerStep × ℕ)) (steps : GainsAt loads b u) (known : IsSound w) where
  abbrev c : InitialState
  c = initial_state_of v.initial

  abbrev all_steps : List (WorkerStep × ℕ)
  all_steps = (EndLookup around.high, length w.writer_steps) ∷ (loads ++ (BeginLookup addrs around.low, length around.begins.writer_steps) ∷ [])

  made : Made all_steps v w
  made = made_at all_steps v w (
    u,
    goes_at loads ((BeginLookup addrs around.low, length around.begins.writer_steps) ∷ []) v b u steps (v, refl, around.begins, refl),
    around.ends,
    ap (λ (x : View). length x.writer_steps) around.ends.view,
  )

  written : IsWritten c w.writer_steps
  written = subst (λ (o : InitialData). IsWritten (initial_state_of o) w.writer_steps) made.initial known.written

  done_then : lo ≡ updates_done (oldest (length around.begins.writer_steps) w.writer_steps)
  done_then =
      let on : GoesOn b w = goes_on b u w (all_at loads b u steps) (gains_on (EndLookup around.high) u w around.ends) in
      let seen_is : b.writer_steps ≡ around.begins.writer_steps = ap (λ (x : View). x.writer_steps) around.begins.view in
      let then : oldest (length around.begins.writer_steps) w.writer_steps ≡ b.writer_steps =
      ap (λ (l : List WriterStep). oldest (length l) w.writer_steps) (sym seen_is) ∙ beginning_of b.writer_steps w.writer_steps on.later in
      around.done_then ∙ (ap (λ (l : List WriterStep). updates_done_in (state_after c l)) (sym then)
      ∙ (counts c (oldest (length around.begins.writer_steps) w.writer_steps) (written_then c w.writer_steps (length around.begins.writer_steps) written)).done_is)

  begun_then : hi ≡ updates_begun w.writer_steps
  begun_then = around.begun_then ∙ (counts c w.writer_steps written).begun_is

-- what a seat looks up its pass does
pub looks_up : (on on' : Bool) (addr : ℕ) (hop : Option ℕ) (lo hi : ℕ) (s s' : WorkerAt) (p : PassState) → state s on ≡ p
    → s'.table ≡ s.table → s'.worker ≡ s.worker → DeedLooksUp addr hop lo hi s.view s'.view → IsSound s'.view
    → LooksUp addr hop lo hi p (state s' on')
looks_up on on' addr hop lo hi s s' p is table worker d known =
    let v : View = s.view in
    let w : View = s'.view in
    let a = d.around in
    let loads : List (WorkerStep × ℕ) = loads_at d.found.word d.found.first d.found.second in
    subst (λ (q : PassState). LooksUp addr hop lo hi q (state s' on')) is (record {
      low = a.low;
      begins = length a.begins.writer_steps;
      found = d.found;
      high = a.high;
      steps = makes on on' _ s s' (state s on) refl table worker (made (addr ∷ []) lo hi v d.started d.loaded w a loads d.steps known);
      result = d.answer;
      done_then = done_then (addr ∷ []) lo hi v d.started d.loaded w a loads d.steps known;
      begun_then = begun_then (addr ∷ []) lo hi v d.started d.loaded w a loads d.steps known;
      answer = is_answered s.table v.initial w.writer_steps lo hi d.found
          (written (addr ∷ []) lo hi v d.started d.loaded w a loads d.steps known) d.exact d.legal;
    })

-- and of several addresses
pub looks_up_all : (on on' : Bool) (addrs : List ℕ) (hops : List (Option ℕ)) (lo hi : ℕ) (s s' : WorkerAt) (p : PassState)
    → state s on ≡ p → s'.table ≡ s.table → s'.worker ≡ s.worker → DeedLooksUpAll addrs hops lo hi s.view s'.view
    → IsSound s'.view → LooksUpAll addrs hops lo hi p (state s' on')
looks_up_all on on' addrs hops lo hi s s' p is table worker d known =
    let v : View = s.view in
    let w : View = s'.view in
    let a = d.around in
    let loads : List (WorkerStep × ℕ) = seconds_at d.found ++ firsts_at d.found in
    let lawful = written addrs lo hi v d.started d.loaded w a loads d.steps known in
    subst (λ (q : PassState). LooksUpAll addrs hops lo hi q (state s' on')) is (record {
      low = a.low;
      begins = length a.begins.writer_steps;
      found = d.found;
      high = a.high;
      steps = makes on on' _ s s' (state s on) refl table worker (made addrs lo hi v d.started d.loaded w a loads d.steps known);
      addrs_are = d.addrs_are;
      hops_are = d.hops_are;
      done_then = done_then addrs lo hi v d.started d.loaded w a loads d.steps known;
      begun_then = begun_then addrs lo hi v d.started d.loaded w a loads d.steps known;
      answers = λ k f low. is_answered s.table v.initial w.writer_steps lo hi (get_or d.found k f) lawful (d.exact k f low) (d.legal k f low);
    })
