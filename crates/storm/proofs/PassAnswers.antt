-- The answers of a pass, as it goes on, and those of all workers.
use Rattle.std.proofs.Common.{◌≡◌, ◌≤◌, ℕ, List, [], ◌∷◌, ◌++◌, All, map, refl, ap, sym, subst, ◌∙◌, length, arith, zero, suc, ◌+◌, ◌*◌, length-append, ap₂}
use Rattle.std.specs.Prelude.{reverse}
use mathlib.Core.List.{reverse-cons, map-map}
use Rattle.std.proofs.lemmas.List.{map-append, length-map, get_or-map}
use Rattle.std.proofs.lemmas.List.Elements.{All-append, All-cons, All-head, All-nil, All-map, All-tail}
use Rattle.lpm_rules.specs.declared.Answer.{Answer}
use Rattle.lpm_trace.specs.declared.step.WriterStep.{WriterStep}
use Rattle.lpm_trace.specs.declared.step.WorkerStep.{WorkerStep}
use Rattle.lpm_trace.specs.declared.step.WorkerStep.TheVariants.{MeetWriter}
use Rattle.lpm_trace.specs.States.{InitialState}
use Rattle.lpm_trace.specs.Trace.{worker_by, FinishedLookup, Worker as WorkerState, worker_by_step}
use Rattle.lpm_trace.specs.Laws.{ArePlaced, IsLegalAtPlace}
use Rattle.shared_words.specs.Rule.{IsLater}
use Rattle.shared_words.specs.Deeds.{seen_of}
use Rattle.shared_fib.specs.RunningTable.{Identity, initial_state, WriterState, steps_of}
use Rattle.shared_fib.specs.Passes.{PassState, IsHistory, LooksUp, Makes}
use Rattle.shared_fib.proofs.Lookups.{finished_more}
use Rattle.shared_fib.proofs.Backwards.{of_shown, of_version_still, shown}
use Rattle.storm.specs.Workers.{HasLookedUp, IsOfAStandingVersion, answer_of, answers_by, lookups_of, times, HasAnswered, answers_of_passes, answers_of_workers}
use Rattle.lpm_rules.specs.declared.Change.{Change}
use Rattle.lpm_rules.specs.RuleMap.{RuleMap}
use Rattle.lpm_writer.specs.GroupToFill.{HasWidths}
use Rattle.audit.specs.Wrong.{IsOfSomeVersion}
use Rattle.storm.specs.Writer.{HasVersions}
use Rattle.storm.proofs.Versions.{answer_is_right}
use Rattle.storm.proofs.Meetings.{passes_of}
use Rattle.storm.specs.declared.workers.Worker.{Worker}

-- the answers are those of the pass, each of whose lookups is of a version
abbrev pub AreTold : InitialState → PassState → List (ℕ × Answer) → Type 0
AreTold c p xs = (xs ≡ answers_by p) × All (IsOfAStandingVersion c p.writer_steps) (lookups_of p)

versions_later : (c : InitialState) (before after : List WriterStep) (xs : List FinishedLookup) → IsLater before after
    → All (IsOfAStandingVersion c before) xs → All (IsOfAStandingVersion c after) xs
versions_later c before after xs later all k d below =
    let h = all k d below in
    (h.0, of_version_still c before after later _ h.0 h.1)

-- steps that end no lookup leave the lookups as they are
pub told_on : (c : InitialState) (p q : PassState) (xs : List (ℕ × Answer)) → lookups_of q ≡ lookups_of p → IsLater p.writer_steps q.writer_steps
    → AreTold c p xs → AreTold c q xs
told_on c p q xs same later told = (
  told.0 ∙ sym (ap (map answer_of) same),
  subst (All (IsOfAStandingVersion c q.writer_steps)) (sym same) (versions_later c p.writer_steps q.writer_steps (lookups_of p) later told.1),
)

-- the step ends no lookup
abbrev pub EndsNone : WorkerStep → Type 0
EndsNone s = (now : ℕ) (r : WorkerState) → (worker_by_step now r s).finished ≡ r.finished

abbrev finished_by : List (WorkerStep × ℕ) → List FinishedLookup
finished_by steps = reverse (worker_by steps).finished

pub kept_by_one : (s : WorkerStep) (place : ℕ) (p q : PassState) → EndsNone s → Makes ((s, place) ∷ []) p q
    → lookups_of q ≡ lookups_of p
kept_by_one s place p q none h = ap finished_by h.steps ∙ ap reverse (none place (worker_by p.steps))

pub kept_by_two : (r s : WorkerStep) (first last : ℕ) (p q : PassState) → EndsNone r → EndsNone s
    → Makes ((s, last) ∷ (r, first) ∷ []) p q → lookups_of q ≡ lookups_of p
kept_by_two r s first last p q none_first none_second h =
    ap finished_by h.steps
    ∙ (ap reverse (none_second last (worker_by ((r, first) ∷ p.steps))) ∙ ap reverse (none_first first (worker_by p.steps)))

-- ---- one lookup more

module _ (p q : PassState) (addr : ℕ) (answer : Answer) (looks : LooksUp addr answer.hop answer.lo answer.hi p q) (history : IsHistory q) where
  abbrev seen : FinishedLookup
  seen = seen_of answer.lo answer.hi (record looks.found { addr = addr })

  finished : (worker_by q.steps).finished ≡ seen ∷ (worker_by p.steps).finished
  finished = finished_more addr answer.hop answer.lo answer.hi p q looks history

  newest : lookups_of q ≡ lookups_of p ++ seen ∷ []
  newest = ap reverse finished ∙ reverse-cons seen (worker_by p.steps).finished

  answer_is : answer_of seen ≡ (addr, answer)
  answer_is = λ i. (addr, record answer { hop = looks.result.1 i })

  answers_are : answers_by q ≡ answers_by p ++ (addr, answer) ∷ []
  answers_are =
      ap (map answer_of) newest
      ∙ (map-append answer_of (lookups_of p) (seen ∷ [])
      ∙ ap (λ (x : ℕ × Answer). answers_by p ++ x ∷ []) answer_is)

  legal : IsLegalAtPlace (initial_state q.table) q.writer_steps seen
  legal = All-head (IsLegalAtPlace (initial_state q.table) q.writer_steps) seen (worker_by p.steps).finished
      (subst (All (IsLegalAtPlace (initial_state q.table) q.writer_steps)) finished history.legal)

  pub told_more : (c : InitialState) (xs : List (ℕ × Answer)) → initial_state p.table ≡ c → AreTold c p xs
      → AreTold c q (xs ++ (addr, answer) ∷ [])
  told_more c xs own told =
      let same : initial_state q.table ≡ c = ap initial_state looks.steps.table ∙ own in
      let here : IsLegalAtPlace c q.writer_steps seen = subst (λ (s : InitialState). IsLegalAtPlace s q.writer_steps seen) same legal in
      let this : IsOfAStandingVersion c q.writer_steps seen = (shown c q.writer_steps seen here, of_shown c q.writer_steps seen here) in
      let before = versions_later c p.writer_steps q.writer_steps (lookups_of p) looks.steps.writer_steps told.1 in (
        ap (λ (ys : List (ℕ × Answer)). ys ++ (addr, answer) ∷ []) told.0 ∙ sym answers_are,
        subst (All (IsOfAStandingVersion c q.writer_steps)) (sym newest)
            (All-append (IsOfAStandingVersion c q.writer_steps) (lookups_of p) (seen ∷ []) before
            (All-cons (IsOfAStandingVersion c q.writer_steps) seen [] this (All-nil (IsOfAStandingVersion c q.writer_steps)))),
      )

-- ---- a pass that meets the writer

-- the addresses of a pass's answers are those of its lookups
pub addresses_same : (p : PassState) → map (λ x. x.0) (answers_by p) ≡ map (λ s. s.addr) (lookups_of p)
addresses_same p = map-map (λ (x : ℕ × Answer). x.0) answer_of (lookups_of p)

pub looked_up : (id : Identity) (addrs : List ℕ) (rounds : ℕ) (steps : List WriterStep) (n place : ℕ) (p q : PassState) (xs : List (ℕ × Answer))
    → Makes ((MeetWriter n, place) ∷ []) p q → q.table ≡ id → q.writer_steps ≡ steps → IsHistory q → AreTold (initial_state id) p xs
    → map (λ x. x.0) xs ≡ times rounds addrs → (xs ≡ answers_by q) × HasLookedUp id addrs rounds steps q
looked_up id addrs rounds steps n place p q xs made own all history told whole =
    let after : AreTold (initial_state id) q xs =
    told_on (initial_state id) p q xs (kept_by_one (MeetWriter n) place p q (λ now r. refl) made) made.writer_steps told in (
      after.0,
      record {
        table = own;
        writer_steps = all;
        within = subst (λ (l : List WriterStep). All (λ step. step.1 ≤ length l) q.steps) all history.within;
        rising = history.rising;
        placed = subst (λ (z : Identity × List WriterStep). ArePlaced (initial_state z.0) z.1 q.steps) (λ i. (own i, all i)) history.placed;
        whole = sym (addresses_same q) ∙ (ap (map (λ (x : ℕ × Answer). x.0)) (sym after.0) ∙ whole);
        versions = subst (λ (l : List WriterStep). All (IsOfAStandingVersion (initial_state id) l) (lookups_of q)) all after.1;
      },
    )

-- Rounds of addresses, with one more.

pub one_more_round : (n : ℕ) (addrs before after : List ℕ) → before ≡ times n addrs → after ≡ before ++ addrs
    → after ≡ times (n + 1) addrs
one_more_round n addrs before after was here =
    let next : suc n ≡ n + 1 = omega arith in
    subst (λ (m : ℕ). after ≡ times m addrs) next (here ∙ ap (λ (xs : List ℕ). xs ++ addrs) was)

pub length_times : (n : ℕ) (addrs : List ℕ) → length (times n addrs) ≡ n * length addrs
length_times zero addrs = omega arith
length_times (suc n) addrs =
    let so_far : length (times n addrs) ≡ n * length addrs = length_times n addrs in
    let one_more : n * length addrs + length addrs ≡ suc n * length addrs = grind arith in
    length-append (times n addrs) addrs ∙ (ap (λ (k : ℕ). k + length addrs) so_far ∙ one_more)

pub length_rounds : (n : ℕ) (addrs : List ℕ) (xs : List (ℕ × Answer)) → map (λ x. x.0) xs ≡ times n addrs
    → length xs ≡ n * length addrs
length_rounds n addrs xs all = sym (length-map xs (λ (x : ℕ × Answer). x.0)) ∙ (ap length all ∙ length_times n addrs)

suc_times : (n m : ℕ) → m + n * m ≡ suc n * m
suc_times n m = grind arith

pub all_times : (P : ℕ → Type 0) (n : ℕ) (addrs : List ℕ) → All P addrs → All P (times n addrs)
all_times P zero addrs all = λ k d below. absurd (omega (arith, below))
all_times P (suc n) addrs all = All-append P (times n addrs) addrs (all_times P n addrs all) all

pub all_of_addresses : (P : ℕ → Type 0) (xs : List (ℕ × Answer)) (ys : List ℕ) → map (λ x. x.0) xs ≡ ys → All P ys
    → All (λ x. P x.0) xs
all_of_addresses P xs ys same all k d below =
    let here : All P (map (λ (x : ℕ × Answer). x.0) xs) = subst (All P) (sym same) all in
    subst P (get_or-map (λ (x : ℕ × Answer). x.0) xs k d d.0 below) (here k d.0 (omega (arith, below, length-map xs (λ (x : ℕ × Answer). x.0))))

-- ---- all workers

module _ (id : Identity) (addrs : List ℕ) (rounds : ℕ) (w_steps : List WriterStep) where
  -- the addresses of a worker's answers
  pub addresses_of : (w : Worker) → HasAnswered id addrs rounds w_steps w → map (λ x. x.0) w.answers.items ≡ times rounds addrs
  addresses_of w h =
      ap (map (λ (x : ℕ × Answer). x.0)) h.answers ∙ (addresses_same w.pass ∙ h.looked.whole)

  pub all_held : (workers : List Worker) → All (HasAnswered id addrs rounds w_steps) workers
      → answers_of_workers workers ≡ answers_of_passes (passes_of workers)
  all_held [] all = refl
  all_held (w ∷ workers) all =
      let rest : answers_of_workers workers ≡ answers_of_passes (passes_of workers) =
      all_held workers (All-tail (HasAnswered id addrs rounds w_steps) w workers all) in
      ap (λ (xs : List (ℕ × Answer)). xs ++ answers_of_workers workers) (All-head (HasAnswered id addrs rounds w_steps) w workers all).answers
      ∙ ap (λ (xs : List (ℕ × Answer)). answers_by w.pass ++ xs) rest

  pub all_looked : (workers : List Worker) → All (HasAnswered id addrs rounds w_steps) workers
      → All (HasLookedUp id addrs rounds w_steps) (passes_of workers)
  all_looked [] all = λ k d below. absurd (omega (arith, below))
  all_looked (w ∷ workers) all =
      All-cons (HasLookedUp id addrs rounds w_steps) w.pass (passes_of workers)
      (All-head (HasAnswered id addrs rounds w_steps) w workers all).looked
      (all_looked workers (All-tail (HasAnswered id addrs rounds w_steps) w workers all))

  pub count_all : (workers : List Worker) → All (HasAnswered id addrs rounds w_steps) workers
      → length (answers_of_workers workers) ≡ length workers * (rounds * length addrs)
  count_all [] all = omega arith
  count_all (w ∷ workers) all =
      let here : length w.answers.items ≡ rounds * length addrs =
      length_rounds rounds addrs w.answers.items (addresses_of w (All-head (HasAnswered id addrs rounds w_steps) w workers all)) in
      let rest : length (answers_of_workers workers) ≡ length workers * (rounds * length addrs) =
      count_all workers (All-tail (HasAnswered id addrs rounds w_steps) w workers all) in
      let both : length (answers_of_workers (w ∷ workers)) ≡ length w.answers.items + length (answers_of_workers workers) =
      length-append w.answers.items (answers_of_workers workers) in
      both ∙ (ap₂ (λ (m n : ℕ). m + n) here rest ∙ suc_times (length workers) (rounds * length addrs))

  -- ---- answers of versions

  pub all_right : (f s : ℕ) (R : RuleMap) (w : WriterState) (changes : List (Change f s)) (passes : List PassState)
      → HasWidths f s (initial_state id) → w.identity ≡ id → HasVersions R w changes → steps_of w ≡ w_steps
      → All (HasLookedUp id addrs rounds w_steps) passes → All (IsOfSomeVersion R changes) (answers_of_passes passes)
  all_right f s R w changes [] widths own has same all = λ k d below. absurd (omega (arith, below))
  all_right f s R w changes (p ∷ passes) widths own has same all =
      let looked = All-head (HasLookedUp id addrs rounds w_steps) p passes all in
      let of = subst (λ (l : List WriterStep). All (IsOfAStandingVersion (initial_state id) l) (lookups_of p)) (sym same) looked.versions in
      All-append (IsOfSomeVersion R changes) (answers_by p) (answers_of_passes passes)
      (All-map (IsOfSomeVersion R changes) answer_of (lookups_of p) (λ k d below. answer_is_right f s R id w changes _ widths own has (of k d below)))
      (all_right f s R w changes passes widths own has same (All-tail (HasLookedUp id addrs rounds w_steps) p passes all))
