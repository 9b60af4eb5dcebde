-- A reclaim takes the longest front that passes, where a check's answer stays what it is meanwhile.
use Rattle.std.proofs.Common.{arith, ℕ, zero, suc, ◌≡◌, ◌+◌, ◌≤◌, List, [], ◌∷◌, length, drop, refl, add-one, ◌-◌, ◌⊎◌, inl, inr, take, ap, ◌∙◌, length-drop}
use Rattle.std.specs.Prelude.{slice_get, MatchOption, Option, Result, Ok, All, Err, Some, None, IsSomeAnd}
use Rattle.lpm_limits.specs.declared.busy.Busy.{Busy}
use Rattle.defer_queue.specs.Reclaims.{FreesFront, Reclaims}
use Rattle.std.proofs.lemmas.List.Elements.{All-nil, All-cons}
use Rattle.defer_queue.specs.Longest.{TakesLongest}

-- The front of a list, and one more item freed from it.

pub front_rest : (xs : List (ℕ × ℕ)) → MatchOption (slice_get xs 0) (xs ≡ []) (λ item. xs ≡ item ∷ drop 1 xs)
front_rest [] = refl
front_rest (x ∷ xs) = refl

module _ {S I : Type 0} (checks : S → I → Result (Unit {0}) Busy → S → Type 0) (frees : S → I → S → Type 0) where
  -- the item that stands first now is freed too
  pub FreesFront-suc : (n : ℕ) (items : List I) (s : S) (item : I) (rest : List I) (m passed freed : S)
      → FreesFront checks frees n items s (item ∷ rest) m → checks m item (Ok tt) passed → frees passed item freed
      → FreesFront checks frees (suc n) items s rest freed
  FreesFront-suc zero [] s item rest m passed freed h c f = absurd (cc)
  FreesFront-suc zero (first ∷ items) s item rest m passed freed h c f =
      let e : item ≡ first = cc in
      let r : rest ≡ items = cc in
      let c1 : checks m first (Ok tt) passed = rw e at c in
      let c2 : checks s first (Ok tt) passed = rw h.1 at c1 in
      let f1 : frees passed first freed = rw e at f in
      (passed, freed, c2, f1, (r, refl))
  FreesFront-suc (suc n) [] s item rest m passed freed h c f = absurd h
  FreesFront-suc (suc n) (first ∷ items) s item rest m passed freed h c f =
      (h.0, h.1, h.2, h.3, FreesFront-suc n items h.1 item rest m passed freed h.4 c f)

  pub FreesFront-more : (n : ℕ) (items left rest later : List I) (item : I) (s m passed freed : S)
      → FreesFront checks frees n items s left m → left ≡ item ∷ rest → later ≡ rest
      → checks m item (Ok tt) passed → frees passed item freed
      → FreesFront checks frees (n + 1) items s later freed
  FreesFront-more n items left rest later item s m passed freed h e l c f =
      let h1 : FreesFront checks frees n items s (item ∷ rest) m = rw e at h in
      rw (add-one, l) (FreesFront-suc n items s item rest m passed freed h1 c f)

  FreesFront-within : (n : ℕ) (items : List I) (s : S) (left : List I) (z : S) → FreesFront checks frees n items s left z → n ≤ length items
  FreesFront-within zero items s left z h = omega arith
  FreesFront-within (suc n) [] s left z h = absurd h
  FreesFront-within (suc n) (item ∷ items) s left z h = omega (arith, FreesFront-within n items h.1 left z h.4)

-- no more items were freed than there are
pub Reclaims-within : {S I : Type 0} {checks : S → I → Result (Unit {0}) Busy → S → Type 0} {frees : S → I → S → Type 0}
    {max n : ℕ} {items left : List I} {s z : S} {stopped : Option Busy} → Reclaims checks frees max items s n stopped left z → n ≤ length items
Reclaims-within {S} {I} {checks} {frees} {max} {n} {items} {left} {s} r = FreesFront-within checks frees n items s left r.last r.front

module _ {S : Type 0} (checks : S → ℕ → Result (Unit {0}) Busy → S → Type 0) (frees : S → ℕ → S → Type 0)
    (steady : S → Type 0) (answers : ℕ → Result (Unit {0}) Busy → Type 0)
    (checked : (s : S) (token : ℕ) (r : Result (Unit {0}) Busy) (z : S) → steady s → checks s token r z → steady z × answers token r)
    (freed : (s : S) (group : ℕ) (z : S) → steady s → frees s group z → steady z) where
  -- what holds of the items freed so far, and of those that are left
  record Took (n : ℕ) (items left : List (ℕ × ℕ)) (z : S) : Type 0 where
    within : n ≤ length items
    passed : All (λ item. answers item.1 (Ok tt)) (take n items)
    rest : left ≡ drop n items
    still : steady z

  took : (n : ℕ) (items left : List (ℕ × ℕ)) (s z : S) → steady s → FreesFront (λ s item. checks s item.1) (λ s item. frees s item.0) n items s left z → Took n items left z
  took zero items left s z i h = record {
    within = omega arith;
    passed = All-nil (λ item. answers item.1 (Ok tt));
    rest = h.0;
    still = rw h.1 i;
  }
  took (suc n) [] left s z i h = absurd h
  took (suc n) (item ∷ items) left s z i h =
      let c = checked s item.1 (Ok tt) h.0 i h.2 in
      let f = freed h.0 item.0 h.1 c.0 h.3 in
      let t = took n items left h.1 z f h.4 in
      record {
        within = omega (arith, t.within);
        passed = All-cons (λ item. answers item.1 (Ok tt)) item (take n items) c.1 t.passed;
        rest = t.rest;
        still = t.still;
      }

  ended : (max n : ℕ) (items left : List (ℕ × ℕ)) → n ≤ length items → left ≡ drop n items → (n ≡ max) ⊎ (left ≡ [])
      → (n ≡ max) ⊎ (n ≡ length items)
  ended max n items left l e (inl m) = inl m
  ended max n items left l e (inr z) =
      let f : length left ≡ 0 = ap length z in
      let d : length left ≡ length items - n = ap length e ∙ length-drop n items in
      inr (omega arith)

  held : (n : ℕ) (items left : List (ℕ × ℕ)) (item : ℕ × ℕ) (busy : Busy) → item ∷ left ≡ drop n items
      → answers item.1 (Err busy) → IsSomeAnd (slice_get items n) (λ i. answers i.1 (Err busy))
  held zero [] left item busy e a = absurd (cc)
  held zero (first ∷ items) left item busy e a = let f : item ≡ first = cc in rw f at a
  held (suc n) [] left item busy e a = absurd (cc)
  held (suc n) (first ∷ items) left item busy e a = held n items left item busy e a

  pub Reclaims-longest : (max : ℕ) (items : List (ℕ × ℕ)) (s : S) (n : ℕ) (stopped : Option Busy) (left : List (ℕ × ℕ)) (z : S)
      → steady s → Reclaims (λ s item. checks s item.1) (λ s item. frees s item.0) max items s n stopped left z → TakesLongest answers max items n stopped
  Reclaims-longest max items s n None left z i r =
      let t = took n items left s r.last i r.front in
      record {
        at_most = r.at_most;
        within = t.within;
        passed = t.passed;
        end = ended max n items left t.within t.rest r.end.0;
      }
  Reclaims-longest max items s n (Some busy) [] z i r = absurd r.end
  Reclaims-longest max items s n (Some busy) (item ∷ left) z i r =
      let t = took n items (item ∷ left) s r.last i r.front in
      record {
        at_most = r.at_most;
        within = t.within;
        passed = t.passed;
        end = (r.end.0, held n items left item busy t.rest (checked r.last item.1 (Err busy) z t.still r.end.1).1);
      }
