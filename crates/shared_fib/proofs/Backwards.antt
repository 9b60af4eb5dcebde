-- No pass goes back in versions.
use Rattle.std.proofs.Common.{ℕ, ◌≡◌, ◌≤◌, inl, inr, ap, sym, subst, ◌∙◌, All, List, [], ◌∷◌, ◌++◌, length, slice_get, Some, arith}
use Rattle.std.proofs.lemmas.Option.{slice_get_within, get_or_from_slice_get}
use Rattle.lpm_rules.specs.RuleMap.{RuleMap}
use Rattle.lpm_trace.specs.declared.step.WriterStep.{WriterStep}
use Rattle.lpm_trace.specs.declared.step.WorkerStep.{WorkerStep}
use Rattle.lpm_trace.specs.declared.step.WorkerStep.TheVariants.{BeginLookup, EndLookup}
use Rattle.lpm_trace.specs.States.{InitialState, TableState, IsAnswer, updates_done_in, updates_begun_in, version, oldest, state_after, state_at}
use Rattle.lpm_trace.specs.Writer.{IsWritten}
use Rattle.lpm_trace.specs.Trace.{FinishedLookup}
use Rattle.lpm_trace.specs.Laws.{IsLegalAtPlace}
use Rattle.lpm_trace.proofs.Traces.{oldest_all, at_now, history_at}
use Rattle.lpm_trace.proofs.Promises.{versions_never_fall_at_places}
use Rattle.shared_words.specs.Rule.{IsLater}
use Rattle.shared_words.specs.Deeds.{firsts_at, loads_at, seconds_at}
use Rattle.shared_words.proofs.Deeds.{later_longer}
use Rattle.shared_fib.specs.RunningTable.{Identity, WriterState, Rests, initial_state, steps_of}
use Rattle.shared_fib.specs.Versions.{updates_begun, updates_done}
use Rattle.shared_fib.specs.Passes.{PassState, IsHistory}
use Rattle.shared_fib.proofs.Versions.{counts, oldest_before}
use Rattle.shared_fib.proofs.Lookups.{all_last}
use Rattle.shared_fib.specs.Laws.{IsOfVersion, AreInOrder, VersionsStay, LookupsNeverGoBack, LookupsCountVersions}

-- ---- steps that were there before others

module _ (c : InitialState) (before after : List WriterStep) (later : IsLater before after) where
  at_before : (place : ℕ) → place ≤ length before → state_at c after place ≡ state_at c before place
  at_before place low =
      ap (λ (steps : List WriterStep). state_at c steps place) later.1
      ∙ ap (state_after c) (oldest_before later.0 before place low)

  history_kept : (place k : ℕ) → place ≤ length before → k ≤ updates_begun_in (state_at c before place)
      → (state_after c after).history k ≡ (state_after c before).history k
  history_kept place k low stands =
      let same : state_at c after place ≡ state_at c before place = at_before place low in
      history_at c after place k (subst (λ (w : TableState). k ≤ updates_begun_in w) (sym same) stands)
      ∙ (ap (λ (w : TableState). w.history k) same ∙ sym (history_at c before place k stands))

  pub of_version_still : (seen : FinishedLookup) (k : ℕ) → IsOfVersion c before seen k → IsOfVersion c after seen k
  of_version_still seen k h =
      let low : h.place ≤ length before = omega (arith, h.to, h.within) in
      record {
        place = h.place;
        from = h.from;
        to = h.to;
        within = omega (arith, h.within, later_longer before after later);
        stands = subst (λ (w : TableState). (updates_done_in w ≤ k) × (k ≤ updates_begun_in w)) (sym (at_before h.place low)) h.stands;
        answers = subst (λ (R : RuleMap). IsAnswer c R seen.addr seen.hop)
            (sym (history_kept h.place k low h.stands.1)) h.answers;
        low = h.low;
        high = h.high;
      }

pub versions_stay : VersionsStay
versions_stay c before after k later begun_k =
    let now : state_at c before (length before) ≡ state_after c before = at_now c before in
    history_kept c before after later (length before) k (omega arith)
    (subst (λ (w : TableState). k ≤ updates_begun_in w) (sym now) begun_k)

-- ---- finished lookups

-- the version that the address shows at the place where its lookup is legal
abbrev pub shown : (c : InitialState) (steps : List WriterStep) (seen : FinishedLookup) → IsLegalAtPlace c steps seen → ℕ
shown c steps seen h = version (state_at c steps h.place) seen.addr

pub of_shown : (c : InitialState) (steps : List WriterStep) (seen : FinishedLookup) (h : IsLegalAtPlace c steps seen)
    → IsOfVersion c steps seen (shown c steps seen h)
of_shown c steps seen h =
    let stands = versions_never_fall_at_places c steps seen.addr h.place h.place (omega arith) in
    record {
      place = h.place;
      from = h.from;
      to = h.to;
      within = h.within;
      stands = (stands.0, stands.1);
      answers = h.answers;
      low = h.low;
      high = h.high;
    }

pub lookups_never_go_back : LookupsNeverGoBack
lookups_never_go_back c before after earlier later old new on first same =
    let a : ℕ = earlier.addr in
    let then : TableState = state_at c after new.place in
    let stay : state_at c after old.place ≡ state_at c before old.place =
    at_before c before after on old.place (omega (arith, old.to, old.within)) in
    let rises = versions_never_fall_at_places c after a old.place new.place
    (omega (arith, old.to, old.within, first, new.from)) in (
      shown c before earlier old,
      shown c after later new,
      subst (λ (b : ℕ). version (state_at c before old.place) a ≤ version then b) same
          (subst (λ (w : TableState). version w a ≤ version then a) stay rises.2),
      of_version_still c before after on earlier (shown c before earlier old) (of_shown c before earlier old),
      of_shown c after later new,
    )

-- ---- what a pass is told

pub at_place : {A : Type 0} (P : A → Type 0) (xs : List A) (i : ℕ) (x : A) → slice_get xs i ≡ Some x → All P xs
    → P x
at_place P xs i x here all =
    subst P (get_or_from_slice_get xs i x x here) (all i x (slice_get_within xs i x here))

-- two legal lookups of one address, of which the earlier read its last word before the later read its first
pub in_order : (c : InitialState) (steps : List WriterStep) (earlier later : FinishedLookup) → IsLegalAtPlace c steps earlier → IsLegalAtPlace c steps later
    → earlier.last ≤ later.first → earlier.addr ≡ later.addr → AreInOrder c steps earlier later
in_order c steps earlier later old new apart same =
    let rises = versions_never_fall_at_places c steps earlier.addr old.place new.place (omega (arith, old.to, apart, new.from)) in (
      shown c steps earlier old,
      shown c steps later new,
      subst (λ (a : ℕ). version (state_at c steps old.place) earlier.addr ≤ version (state_at c steps new.place) a) same rises.2,
      of_shown c steps earlier old,
      of_shown c steps later new,
    )

-- a pass that has seen all steps of a writer at rest, from the first step of its lookup to the last
counted : (w : WriterState) (lo hi begins : ℕ) (p q : PassState) → Rests w → IsHistory q → q.table ≡ w.identity
    → p.writer_steps ≡ steps_of w → q.writer_steps ≡ steps_of w → length p.writer_steps ≤ begins
    → lo ≡ updates_done (oldest begins q.writer_steps) → hi ≡ updates_begun q.writer_steps
    → (lo ≡ w.table.updates_begun) × (hi ≡ w.table.updates_begun)
counted w lo hi begins p q rest history own before after late done_then begun_then =
    let all : oldest begins q.writer_steps ≡ steps_of w =
    oldest_all q.writer_steps begins (omega (arith, late, ap length before, ap length after)) ∙ after in
    let written : IsWritten (initial_state w.identity) (steps_of w) =
    subst (λ (z : Identity × List WriterStep). IsWritten (initial_state z.0) z.1) (λ i. (own i, after i)) history.written in
    let now = counts (initial_state w.identity) (steps_of w) written in (
      done_then ∙ (ap updates_done all ∙ (sym now.done_is ∙ rest.done)),
      begun_then ∙ (ap updates_begun after ∙ (sym now.begun_is ∙ rest.begun)),
    )

pub lookups_count_versions : LookupsCountVersions
lookups_count_versions w lo hi p q rest (inl told) history own before after =
    let h = told.2 in
    let begin : WorkerStep × ℕ = (BeginLookup (told.0 ∷ []) h.low, h.begins) in
    let place = all_last (λ s. (length p.writer_steps ≤ s.1) × (s.1 ≤ length q.writer_steps)) ((EndLookup h.high, length q.writer_steps) ∷ loads_at h.found.word h.found.first h.found.second) begin h.steps.places in
    counted w lo hi h.begins p q rest history own before after place.0 h.done_then h.begun_then
lookups_count_versions w lo hi p q rest (inr told) history own before after =
    let h = told.2 in
    let begin : WorkerStep × ℕ = (BeginLookup told.0 h.low, h.begins) in
    let place = all_last (λ s. (length p.writer_steps ≤ s.1) × (s.1 ≤ length q.writer_steps))
    ((EndLookup h.high, length q.writer_steps) ∷ (seconds_at h.found ++ firsts_at h.found)) begin h.steps.places in
    counted w lo hi h.begins p q rest history own before after place.0 h.done_then h.begun_then
