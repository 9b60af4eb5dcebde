-- What is so at each place of a list that changes, and passes that leave the bench.
use Rattle.std.proofs.Common.{◌≡◌, ◌≢◌, ℕ, ◌+◌, ◌<◌, inl, inr, List, [], ◌∷◌, ◌++◌, length, map, get_or, set, ap, ◌∙◌, sym, subst, arith, get_or-set_same, get_or-set_other, length-set, Option, Some, None, Bool, true, false, refl, slice_get}
use Rattle.std.specs.Prelude.{cond, slice_set}
use Rattle.std.proofs.lemmas.Bool.{cases_eq, cases_lt}
use Rattle.std.proofs.lemmas.List.{get_or-append-add, get_or-map, get_or_append_left, length-append, length-map}
use Rattle.std.proofs.lemmas.Option.{get_or_from_slice_get, slice_get_within}
use Rattle.shared_fib.specs.Passes.{PassState}
use Rattle.bulk.specs.Desks.{IsAtBench}
use Rattle.bulk.proofs.Meetings.{one_more_seated, others_stay}
use Rattle.storm.specs.Workers.{AreInSeats, AreOfWorkers, EachAt, IsUnused}
use Rattle.storm.specs.declared.workers.Worker.{Worker}

-- where one worker's pass is taken, the others' stay at the bench, unused
pub stays_unused : (passes : List (Option PassState)) (i k : ℕ) → k ≢ i → IsUnused passes k → IsUnused (slice_set passes i None) k
stays_unused passes i k other at = (at.0, others_stay passes i k None other ∙ at.1, at.2)

-- where the stuck worker's pass is taken too, none is at the bench
pub all_seated : (old new : List (Option PassState)) (w : ℕ) (stuck : Bool) → (stuck ≡ true → IsAtBench old w)
    → (stuck ≡ true → new ≡ slice_set old w None) → (stuck ≡ false → new ≡ old)
    → ((k : ℕ) → k < w → slice_get old k ≡ Some None)
    → (k : ℕ) → k < w + cond stuck 1 0 → slice_get new k ≡ Some None
all_seated old new w true at taken same before k low = ap (λ b. slice_get b k) (taken refl) ∙ one_more_seated old w (at refl) before k low
all_seated old new w false at taken same before k low = ap (λ b. slice_get b k) (same refl) ∙ before k (omega (arith, low))

-- one element more, which is so at the last place
pub each_push : {X : Type 0} (P : ℕ → X → Type 0) (xs : List X) (x : X) → EachAt P xs → P (length xs) x → EachAt P (xs ++ x ∷ [])
each_push P xs x each here k d below = elim (cases_lt k (length xs)) [
  | inl low ↦ subst (P k) (sym (get_or_append_left xs (x ∷ []) d k low)) (each k d low)
  | inr past ↦
      let at : k ≡ length xs + 0 = omega (arith, below, past, length-append xs (x ∷ [])) in
      let last : length xs + 0 ≡ length xs = omega arith in
      subst (λ (i : ℕ). P i (get_or (xs ++ x ∷ []) i d)) (sym at)
      (subst (P (length xs + 0)) (sym (get_or-append-add xs (x ∷ []) 0 d)) (subst (λ (i : ℕ). P i x) (sym last) here))
]

-- another element at a place, which is so there
pub each_set : {X : Type 0} (P : ℕ → X → Type 0) (xs : List X) (i : ℕ) (y : X) → i < length xs → EachAt P xs → P i y
    → EachAt P (set xs i y)
each_set P xs i y low each here k d below = elim (cases_eq k i) [
  | inl at ↦ subst (λ (j : ℕ). P j (get_or (set xs i y) j d)) (sym at) (subst (P i) (sym (get_or-set_same xs i y d low)) here)
  | inr other ↦ subst (P k) (sym (get_or-set_other xs i k y d other)) (each k d (omega (arith, below, length-set xs i y)))
]

no_some : {X : Type 0} (x : X) → None ≡ Some x → ⊥
no_some x e = cc

-- the pass of each worker
abbrev pub passes_of : List Worker → List PassState
passes_of workers = map (λ w. w.pass) workers

-- what the passes of workers in their seats know
pub of_workers : (workers : List Worker) → AreInSeats workers → AreOfWorkers (passes_of workers)
of_workers [] each k v at = absurd (no_some v at)
of_workers (w ∷ workers) each k v at =
    let ws : List Worker = w ∷ workers in
    let pass : Worker → PassState = λ x. x.pass in
    let low : k < length (map pass ws) = slice_get_within (map pass ws) k v at in
    let below : k < length ws = omega (arith, low, length-map ws pass) in
    let here : get_or (map pass ws) k v ≡ v = get_or_from_slice_get (map pass ws) k v v at in
    ap (λ (x : PassState). x.worker) (sym here ∙ get_or-map pass ws k w v below) ∙ each k w below
