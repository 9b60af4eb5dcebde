-- Desks before and after a meeting, and their answers between two meetings.
use Rattle.std.proofs.Common.{◌≡◌, ℕ, ◌+◌, ◌≤◌, List, [], ◌∷◌, ◌++◌, Option, length, sym, ap, subst, ◌∙◌, arith, ◌≢◌, suc, ◌<◌, inl, inr, get_or, set, map, All, refl, ap₂, get_or-set_same, get_or-set_other, zero, zero-add, Some, None, slice_get}
use Rattle.lpm_rules.specs.RuleMap.{RuleMap}
use Rattle.lpm_rules.specs.Longest.{IsLongestHop, AreLongestHops}
use Rattle.lpm_rules.proofs.Longest.{AreLongestHops-append}
use Rattle.lpm_trace.specs.declared.step.WriterStep.{WriterStep}
use Rattle.lpm_trace.specs.States.{InitialState, oldest, state_after}
use Rattle.lpm_trace.specs.Writer.{IsWritten}
use Rattle.lpm_trace.proofs.Traces.{oldest_all}
use Rattle.shared_words.specs.Rule.{IsLater}
use Rattle.shared_words.proofs.Deeds.{between, later_trans}
use Rattle.shared_fib.specs.RunningTable.{Identity, WriterState, Rests, initial_state, steps_of}
use Rattle.shared_fib.specs.Versions.{updates_begun, updates_done}
use Rattle.shared_fib.specs.Passes.{PassState, IsHopOfVersion, LooksUp, IsHistory, Makes}
use Rattle.shared_fib.proofs.Versions.{counts, version_is}
use Rattle.shared_fib.proofs.Lookups.{words_after}
use Rattle.bulk.specs.Desks.{AnswersAtRest, IsDeskOf, worker_of, EachDesk, IsSameDesk, HasMet, HasAnswered, IsAtBench}
use Rattle.std.specs.List.{flat_map, range_with_len}
use Rattle.std.proofs.lemmas.Bool.{cases_eq, cases_lt}
use Rattle.std.proofs.lemmas.List.{get_or_default, map-append}
use Rattle.std.specs.Prelude.{false, slice_set}
use Rattle.lpm_trace.specs.declared.step.WorkerStep.{WorkerStep}
use Rattle.bulk.specs.declared.desk.Desk.{Desk}
use Rattle.bulk.specs.Pieces.{piece_of}
use Rattle.bulk.proofs.PieceAnswers.{pieces_answered}
use Rattle.std.proofs.lemmas.List.FromFn.{map-range_with_len_more}

-- A writer that rests while addresses are looked up: the answers are those of its rules.

abbrev pub width_of : WriterState → ℕ
width_of w = w.identity.initial.first + w.identity.initial.second

-- the answer of a version that stood after all steps of a writer that rests
rests_answer : (w : WriterState) (addr : ℕ) (hop : Option ℕ) (place k : ℕ) → Rests w → IsWritten (initial_state w.identity) (steps_of w)
    → IsHopOfVersion w.identity (steps_of w) addr hop place k → length (steps_of w) ≤ place
    → IsLongestHop (width_of w) w.table.rules addr hop
rests_answer w addr hop place k rest written of late =
    let c : InitialState = initial_state w.identity in
    let steps : List WriterStep = steps_of w in
    let all : oldest place steps ≡ steps = oldest_all steps place late in
    let now = counts c steps written in
    let last : k ≡ w.table.updates_begun = omega (
      arith,
      of.done,
      of.begun,
      ap updates_done all,
      ap updates_begun all,
      now.done_is,
      now.begun_is,
      rest.done,
      rest.begun,
    ) in
    let rules : of.rules ≡ w.table.rules =
    sym (version_is c steps k of.rules written of.version).1 ∙ (ap (state_after c steps).history last ∙ rest.rules) in
    subst (λ (R : RuleMap). IsLongestHop (width_of w) R addr hop) rules of.answers

-- a lookup between whose ends a writer that rests has done nothing
looked_up : (w : WriterState) (addr : ℕ) (hop : Option ℕ) (lo hi : ℕ) (p q : PassState) → Rests w
    → IsWritten (initial_state w.identity) (steps_of w) → LooksUp addr hop lo hi p q → p.table ≡ w.identity
    → p.writer_steps ≡ steps_of w → q.writer_steps ≡ steps_of w → IsLongestHop (width_of w) w.table.rules addr hop
looked_up w addr hop lo hi p q rest written looks own before after =
    let f = looks.found in
    let a = looks.answer in
    let of : IsHopOfVersion w.identity (steps_of w) f.addr f.hop a.place a.version = subst
    (λ (z : Identity × List WriterStep). IsHopOfVersion z.0 z.1 f.addr f.hop a.place a.version)
    (λ i. (own i, after i)) a.answer in
    let early : length p.writer_steps ≤ f.first = words_after addr hop lo hi p q looks in
    let late : length (steps_of w) ≤ a.place = omega (arith, ap length before, early, a.stood.0) in
    subst (λ (z : ℕ × Option ℕ). IsLongestHop (width_of w) w.table.rules z.0 z.1) (λ i. (looks.result.0 i, looks.result.1 i))
    (rests_answer w f.addr f.hop a.place a.version rest written of late)

-- the answers so far, and one more
pub answers_more : (id : Identity) (addrs : List ℕ) (hops : List (Option ℕ)) (addr : ℕ) (hop : Option ℕ) (lo hi : ℕ) (first : List WriterStep)
    (p q : PassState) → AnswersAtRest id addrs hops first p.writer_steps → IsLater first p.writer_steps → p.table ≡ id → LooksUp addr hop lo hi p q
    → AnswersAtRest id (addrs ++ addr ∷ []) (hops ++ hop ∷ []) first q.writer_steps
answers_more id addrs hops addr hop lo hi first p q done later own looks w is rest written before after =
    let here : p.writer_steps ≡ steps_of w = between first p.writer_steps q.writer_steps later looks.steps.writer_steps (after ∙ sym before) ∙ before in
    AreLongestHops-append (width_of w) w.table.rules addrs hops addr hop (done w is rest written before here)
    (looked_up w addr hop lo hi p q rest written looks (own ∙ sym is) here after)

-- answers between moments that lie further apart
pub answers_within : (id : Identity) (addrs : List ℕ) (hops : List (Option ℕ)) (a b c d : List WriterStep) → IsLater a b → IsLater b c → IsLater c d
    → AnswersAtRest id addrs hops b c → AnswersAtRest id addrs hops a d
answers_within id addrs hops a b c d ab bc cd answers w is rest written before after =
    let same : d ≡ a = after ∙ sym before in
    answers w is rest written (between a b d ab (later_trans b c d bc cd) same ∙ before) (between a c d (later_trans a b c ab bc) cd same ∙ before)

-- ---- one element of a list after another, as desks, or workers of a storm

-- those before place i have come to this, and the others are as they were
pub record UpTo {X : Type 0} (R : X → X → Type 0) (i : ℕ) (old new : List X) : Type 0 where
  pub done : (k : ℕ) (d : X) → k < i → R (get_or old k d) (get_or new k d)
  pub rest : (k : ℕ) (d : X) → i ≤ k → get_or new k d ≡ get_or old k d

pub none_yet : {X : Type 0} (R : X → X → Type 0) (xs : List X) → UpTo R 0 xs xs
none_yet R xs = record { done = λ k d lt. absurd (omega (arith, lt)); rest = λ k d le. refl }

-- what is so of those before place i, each by its place, and of the one that comes to stand there
pub place_more : {X : Type 0} (P : ℕ → X → Type 0) (i : ℕ) (xs : List X) (y : X) → i < length xs
    → ((k : ℕ) (d : X) → k < i → P k (get_or xs k d)) → P i y
    → (k : ℕ) (d : X) → k < i + 1 → P k (get_or (set xs i y) k d)
place_more P i xs y lt before now k d below = elim (cases_eq k i) [
  | inl here ↦ subst (λ (n : ℕ). P n (get_or (set xs i y) n d)) (sym here)
      (subst (P i) (sym (get_or-set_same xs i y d lt)) now)
  | inr other ↦ subst (P k) (sym (get_or-set_other xs i k y d other))
      (before k d (omega (arith, below, other)))
]

pub one_more : {X : Type 0} (R : X → X → Type 0) (i : ℕ) (old new : List X) (e y : X) → i < length new
    → UpTo R i old new → R (get_or new i e) y → UpTo R (i + 1) old (set new i y)
one_more {X} R i old new e y lt up now = record {
  done = λ k d below.
      let was : get_or new i e ≡ get_or old i d = get_or_default new i e d lt ∙ up.rest i d (omega arith) in
      place_more (λ (n : ℕ). R (get_or old n d)) i new y lt
      (λ n f less. subst (R (get_or old n d)) (get_or_default new n d f (omega (arith, less, lt))) (up.done n d less))
      (subst (λ (u : X). R u y) was now) k d below;
  rest = λ k d le.
      let other : k ≢ i = omega (arith, le) in
      get_or-set_other new i k y d other ∙ up.rest k d (omega (arith, le));
}

-- in the end, where a desk that stays as it was will do
pub up_to_all : (R : Desk → Desk → Type 0) → ((x : Desk) → R x x) → (i : ℕ) (old new : List Desk)
    → UpTo R i old new → EachDesk R old new
up_to_all R same i old new up k d lt = elim (cases_lt k i) [
  | inl below ↦ up.done k d below
  | inr from ↦ subst (R (get_or old k d)) (sym (up.rest k d from)) (same (get_or old k d))
]

-- ---- whose desks they are

numbers_stay : (old new : List Desk) → length new ≡ length old → EachDesk (λ x y. worker_of y ≡ worker_of x) old new
    → map worker_of new ≡ map worker_of old
numbers_stay [] [] len each = refl
numbers_stay [] (y ∷ new) len each = absurd (omega arith)
numbers_stay (x ∷ old) [] len each = absurd (omega arith)
numbers_stay (x ∷ old) (y ∷ new) len each =
    ap₂ (λ (n : ℕ) (ns : List ℕ). n ∷ ns) (each 0 x (omega arith))
    (numbers_stay old new (omega arith) (λ k d lt. each (suc k) d (omega (arith, lt))))

-- desks that keep their passes are those of the same workers
pub numbers_kept : (old new : List Desk) → length new ≡ length old → EachDesk (λ x y. y.pass ≡ x.pass) old new
    → map worker_of new ≡ map worker_of old
numbers_kept old new len kept =
    numbers_stay old new len (λ k d lt. ap (λ (p : PassState). p.worker) (kept k d lt))

-- a desk that keeps its pass, which is offline, is the same
kept_desk : (id : Identity) (old new : Desk) → IsDeskOf id old → new.pass ≡ old.pass → IsSameDesk old new
kept_desk id old new was kept = record {
  table = ap (λ (p : PassState). p.table) kept;
  worker = ap (λ (p : PassState). p.worker) kept;
  offline = ap (λ (p : PassState). p.online) kept ∙ was.offline;
  later = subst (λ (p : PassState). IsLater old.pass.writer_steps p.writer_steps) (sym kept) ([], refl);
}

pub kept_desks : (id : Identity) (old new : List Desk) → All (IsDeskOf id) old
    → EachDesk (λ x y. y.pass ≡ x.pass) old new → EachDesk IsSameDesk old new
kept_desks id old new desks kept k d lt =
    kept_desk id (get_or old k d) (get_or new k d) (desks k d lt) (kept k d lt)

-- desks that keep their passes are still desks of the table
pub desks_stay : (id : Identity) (old new : List Desk) → length new ≡ length old → All (IsDeskOf id) old
    → EachDesk (λ x y. y.pass ≡ x.pass) old new → All (IsDeskOf id) new
desks_stay id old new len desks kept k d lt =
    let was = desks k d (omega (arith, lt, len)) in
    let same = kept k d (omega (arith, lt, len)) in
    record {
      table = ap (λ (p : PassState). p.table) same ∙ was.table;
      offline = ap (λ (p : PassState). p.online) same ∙ was.offline;
    }

-- a desk that stays the same, and then again
same_twice : (a b c : Desk) → IsSameDesk a b → IsSameDesk b c → IsSameDesk a c
same_twice a b c h k = record {
  table = k.table ∙ h.table;
  worker = k.worker ∙ h.worker;
  offline = k.offline;
  later = later_trans a.pass.writer_steps b.pass.writer_steps c.pass.writer_steps h.later k.later;
}

pub desks_twice : (old middle new : List Desk) → length middle ≡ length old → EachDesk IsSameDesk old middle
    → EachDesk IsSameDesk middle new → EachDesk IsSameDesk old new
desks_twice old middle new len before after k d lt =
    same_twice (get_or old k d) (get_or middle k d) (get_or new k d) (before k d lt)
    (after k d (omega (arith, lt, len)))

-- ---- what a desk comes to

-- a pass that meets the writer
pub met : (w : WriterState) (old new : Desk) (made : List (WorkerStep × ℕ)) → Makes made old.pass new.pass
    → new.pass.online ≡ false → new.hops ≡ old.hops → new.pass.writer_steps ≡ steps_of w → IsHistory new.pass → Rests w
    → HasMet w old new
met w old new made step offline hops seen history rests = record {
  same = record { table = step.table; worker = step.worker; offline = offline; later = step.writer_steps };
  hops = hops;
  writer_steps = seen;
  history = history;
  rests = rests;
}

-- a pass that comes online as p, looks up until it is q, and goes offline
pub has_answered : (id : Identity) (addrs : List ℕ) (old new : Desk) (p q : PassState) (came left : List (WorkerStep × ℕ))
    → old.pass.table ≡ id → new.pass.online ≡ false
    → Makes came old.pass p → q.table ≡ id → q.worker ≡ p.worker → IsLater p.writer_steps q.writer_steps → Makes left q new.pass
    → AnswersAtRest id addrs new.hops.items p.writer_steps q.writer_steps → HasAnswered addrs old new
has_answered id addrs old new p q came left was offline comes own worker looks leaves answers =
    let first : List WriterStep = old.pass.writer_steps in
    let last : List WriterStep = new.pass.writer_steps in
    record {
      same = record {
        table = leaves.table ∙ (own ∙ sym was);
        worker = leaves.worker ∙ (worker ∙ comes.worker);
        offline = offline;
        later = later_trans first p.writer_steps last comes.writer_steps (later_trans p.writer_steps q.writer_steps last looks leaves.writer_steps);
      };
      answers = λ w of rest written before after.
          answers_within id addrs new.hops.items first p.writer_steps q.writer_steps last
          comes.writer_steps looks leaves.writer_steps answers w (of ∙ was) rest written before after;
    }

-- ---- two meetings

-- a desk that has met the writer, has answered, and has met the writer again
answered_at_rest : (w : WriterState) (addrs : List ℕ) (a b c d : Desk) → a.pass.table ≡ w.identity
    → HasMet w a b → HasAnswered addrs b c → HasMet w c d
    → AreLongestHops (width_of w) w.table.rules addrs d.hops.items
answered_at_rest w addrs a b c d is first answers last =
    let again : d.pass.writer_steps ≡ b.pass.writer_steps = last.writer_steps ∙ sym first.writer_steps in
    let seen : c.pass.writer_steps ≡ steps_of w =
    between b.pass.writer_steps c.pass.writer_steps d.pass.writer_steps answers.same.later last.same.later again
    ∙ first.writer_steps in
    let own : b.pass.table ≡ w.identity = first.same.table ∙ is in
    let written : IsWritten (initial_state w.identity) (steps_of w) =
    subst (λ (z : Identity × List WriterStep). IsWritten (initial_state z.0) z.1) (λ i. (own i, first.writer_steps i)) first.history.written in
    rw last.hops (answers.answers w (sym own) first.rests written first.writer_steps seen)

-- desks that have met the writer, have answered a piece each, and have met the writer again, which is as it was
module _ (w z : WriterState) (same : z ≡ w) (xs : List ℕ) (ps qs rs ss : List Desk) (met_len : length qs ≡ length ps)
    (answered_len : length rs ≡ length qs) (last_len : length ss ≡ length rs) (first : EachDesk (HasMet w) ps qs)
    (answers : (k : ℕ) (d : Desk) → k < length qs
    → HasAnswered (piece_of xs (length qs) k) (get_or qs k d) (get_or rs k d))
    (last : EachDesk (HasMet z) rs ss) where
  abbrev again : EachDesk (HasMet w) rs ss
  again = subst (λ (x : WriterState). EachDesk (HasMet x) rs ss) same last

  pub longest : (id : Identity) → w.identity ≡ id → All (IsDeskOf id) ps → 0 < length ps
      → AreLongestHops (id.initial.first + id.initial.second) w.table.rules xs
      (flat_map (λ (d : Desk). d.hops.items) ss)
  longest id own desks some =
      let count : length ss ≡ length qs = last_len ∙ answered_len in
      let each : (k : ℕ) (d : Desk) → k < length ss
      → AreLongestHops (width_of w) w.table.rules (piece_of xs (length ss) k) (get_or ss k d).hops.items =
      λ k d lt.
      let piece : HasAnswered (piece_of xs (length ss) k) (get_or qs k d) (get_or rs k d) = subst
      (λ (n : ℕ). HasAnswered (piece_of xs n k) (get_or qs k d) (get_or rs k d)) (sym count)
      (answers k d (omega (arith, lt))) in
      answered_at_rest w (piece_of xs (length ss) k)
      (get_or ps k d) (get_or qs k d) (get_or rs k d) (get_or ss k d)
      ((desks k d (omega (arith, lt))).table ∙ sym own)
      (first k d (omega (arith, lt))) piece (again k d (omega (arith, lt))) in
      subst (λ (i : Identity). AreLongestHops (i.initial.first + i.initial.second) w.table.rules xs
      (flat_map (λ (d : Desk). d.hops.items) ss)) own
      (pieces_answered (λ (d : Desk). d.hops.items) (width_of w) w.table.rules xs ss (omega arith) each)

  pub same_numbers : map worker_of ss ≡ map worker_of ps
  same_numbers = numbers_stay ps ss (last_len ∙ (answered_len ∙ met_len)) (λ k d lt.
      (last k d (omega (arith, lt))).same.worker
      ∙ ((answers k d (omega (arith, lt))).same.worker ∙ (first k d lt).same.worker))

  pub same_desks : EachDesk IsSameDesk ps ss
  same_desks k d lt =
      let p : Desk = get_or ps k d in
      let q : Desk = get_or qs k d in
      let r : Desk = get_or rs k d in
      let s : Desk = get_or ss k d in
      same_twice p q s (first k d lt).same
      (same_twice q r s (answers k d (omega (arith, lt))).same (last k d (omega (arith, lt))).same)

-- The desks of a table's workers, which were seated one after another.

-- what stands at another place stays after a store
pub others_stay : {X : Type 0} (xs : List X) (i k : ℕ) (y : X) → k ≢ i → slice_get (slice_set xs i y) k ≡ slice_get xs k
others_stay [] i k y other = refl
others_stay (x ∷ xs) zero zero y other = absurd (other refl)
others_stay (x ∷ xs) zero (suc k) y other = refl
others_stay (x ∷ xs) (suc i) zero y other = refl
others_stay (x ∷ xs) (suc i) (suc k) y other = others_stay xs i k y (λ e. other (ap suc e))

-- where one worker's pass is taken, the others' stay at the bench
pub stays_at_bench : (passes : List (Option PassState)) (i k : ℕ) → k ≢ i → IsAtBench passes k
    → IsAtBench (slice_set passes i None) k
stays_at_bench passes i k other at = (at.0, others_stay passes i k None other ∙ at.1)

-- what was stored at a place stands there
stands_here : {X : Type 0} (xs : List X) (i : ℕ) (x y : X) → slice_get xs i ≡ Some x → slice_get (slice_set xs i y) i ≡ Some y
stands_here [] i x y at = absurd (no_some x at)
  where
    no_some : {X : Type 0} (x : X) → None ≡ Some x → ⊥
    no_some x e = cc
stands_here (x0 ∷ xs) zero x y at = refl
stands_here (x0 ∷ xs) (suc i) x y at = stands_here xs i x y at

-- no pass of the workers so far is at the bench, and none of the next one
pub one_more_seated : (passes : List (Option PassState)) (i : ℕ) → IsAtBench passes i
    → ((k : ℕ) → k < i → slice_get passes k ≡ Some None)
    → (k : ℕ) → k < i + 1 → slice_get (slice_set passes i None) k ≡ Some None
one_more_seated passes i at before k low = elim (cases_lt k i) [
  | inl below ↦ others_stay passes i k None (omega (arith, below)) ∙ before k below
  | inr above ↦
      let here : k ≡ i = omega (arith, low, above) in
      ap (slice_get (slice_set passes i None)) here ∙ stands_here passes i (Some at.0) None at.1
]

map-same : (xs : List ℕ) → map (λ n. n) xs ≡ xs
map-same [] = refl
map-same (x ∷ xs) = ap (λ (ys : List ℕ). x ∷ ys) (map-same xs)

-- whose desks they are, with the next worker's
pub one_more_number : (desks : List Desk) (desk : Desk) (worker : ℕ)
    → map worker_of desks ≡ range_with_len 0 worker → worker_of desk ≡ worker
    → map worker_of (desks ++ desk ∷ []) ≡ range_with_len 0 (worker + 1)
one_more_number desks desk worker so_far number =
    map-append worker_of desks (desk ∷ [])
    ∙ (ap₂ (λ (a b : List ℕ). a ++ b) so_far (ap (λ (n : ℕ). n ∷ []) number)
    ∙ (ap (λ (xs : List ℕ). xs ++ worker ∷ []) (sym (map-same (range_with_len 0 worker)))
    ∙ (sym (map-range_with_len_more (λ n. n) 0 worker worker (zero-add worker))
    ∙ map-same (range_with_len 0 (worker + 1)))))
