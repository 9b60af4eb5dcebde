-- A reclaim by the places of the limbo list: which of them were checked, and what is left by a count. Each reclaim is of
-- this form.
use Rattle.std.proofs.Common.{arith, ◌≡◌, ℕ, zero, suc, ◌<◌, ◌≤◌, ◌⊎◌, inl, inr, refl, ap, sym, ◌∙◌, subst, List, [], ◌∷◌, length, drop, slice_get, Option, Some, None, Ok, Err, MatchOption}
use Rattle.lpm_limits.specs.declared.busy.Busy.{Busy}
use Rattle.defer_queue.specs.Reclaims.{Ends, FreesFront}
use Rattle.fib_model.specs.State.{Transitions}
use Rattle.fib_model.specs.State as model

-- the first n unlinkings that wait were checked one after another, and passed
abbrev pub Passes : {X : Type 0} → Transitions X → ℕ → List ℕ → X → X → Type 0
Passes t zero limbo x z = z ≡ x
Passes {X} t (suc n) limbo x z = (y : X) × (u : ℕ) × Passes t n limbo x y
    × (slice_get limbo n ≡ Some u) × t.checks y u (Ok tt) z

-- a reclaim of at most `max` took the longest front of the limbo list that passed its checks, and
-- was stopped by a worker that holds the next, unless it took as many as it may, or all
pub record Reclaims {X : Type 0} (t : Transitions X) (x : X) (max : ℕ) (limbo : List ℕ) (freed : ℕ)
    (stopped : Option Busy) (left : List ℕ) (z : X) : Type 0 where
  pub at_most : freed ≤ max
  pub within : freed ≤ length limbo
  pub last : X
  pub passed : Passes t freed limbo x last
  pub rest : left ≡ drop freed limbo
  pub end : MatchOption stopped ((z ≡ last) × ((freed ≡ max) ⊎ (freed ≡ length limbo)))
      (λ busy. (freed < max)
      × ((u : ℕ) × (slice_get limbo freed ≡ Some u) × t.checks last u (Err busy) z))

-- ---- places of a list

none_left : (n : ℕ) (xs : List ℕ) → n ≤ length xs → drop n xs ≡ [] → n ≡ length xs
none_left zero [] within e = refl
none_left zero (x ∷ xs) within e = absurd (cc)
none_left (suc n) [] within e = absurd (omega (arith, within))
none_left (suc n) (x ∷ xs) within e = ap suc (none_left n xs (omega (arith, within)) e)

first_at : (n : ℕ) (xs : List ℕ) (u : ℕ) (rest : List ℕ) → u ∷ rest ≡ drop n xs → slice_get xs n ≡ Some u
first_at zero [] u rest e = absurd (cc)
first_at zero (x ∷ xs) u rest e = let same : x ≡ u = cc in ap Some same
first_at (suc n) [] u rest e = absurd (cc)
first_at (suc n) (x ∷ xs) u rest e = first_at n xs u rest e

module _ {X : Type 0} (t : Transitions X) where
  abbrev Frees : X → ℕ → X → Type 0
  Frees y name w = w ≡ y

  -- ---- the front

  -- the front item was checked before all others
  passes_first : (n u : ℕ) (limbo : List ℕ) (x y z : X) → t.checks x u (Ok tt) y → Passes t n limbo y z → Passes t (suc n) (u ∷ limbo) x z
  passes_first zero u limbo x y z c p = (x, u, refl, refl, subst (λ w. t.checks x u (Ok tt) w) (sym p) c)
  passes_first (suc n) u limbo x y z c p = (p.0, p.1, passes_first n u limbo x y p.0 c p.2, p.3, p.4)

  record Took (n : ℕ) (limbo : List ℕ) (x : X) (left : List ℕ) (z : X) : Type 0 where
    within : n ≤ length limbo
    passed : Passes t n limbo x z
    rest : left ≡ drop n limbo

  took : (n : ℕ) (limbo : List ℕ) (x : X) (left : List ℕ) (z : X) → FreesFront t.checks Frees n limbo x left z → Took n limbo x left z
  took zero limbo x left z h = record { within = omega arith; passed = h.1; rest = h.0 }
  took (suc n) [] x left z h = absurd h
  took (suc n) (u ∷ limbo) x left z h =
      let later = took n limbo h.1 left z h.4 in
      record {
        within = omega (arith, later.within);
        passed = passes_first n u limbo x h.1 z (subst (λ w. t.checks x u (Ok tt) w) (sym h.3) h.2) later.passed;
        rest = later.rest;
      }

  -- ---- how it ended

  ends : (max : ℕ) (limbo : List ℕ) (freed : ℕ) (stopped : Option Busy) (left : List ℕ) (last z : X) → freed ≤ length limbo → left ≡ drop freed limbo → Ends t.checks Frees max freed left last stopped z
      → MatchOption stopped ((z ≡ last) × ((freed ≡ max) ⊎ (freed ≡ length limbo))) (λ busy. (freed < max) × ((u : ℕ) × (slice_get limbo freed ≡ Some u) × t.checks last u (Err busy) z))
  ends max limbo freed None left last z within rest e = (e.1, elim e.0 [ inl all ↦ inl all | inr none ↦ inr (none_left freed limbo within (sym rest ∙ none)) ])
  ends max limbo freed (Some busy) [] last z within rest e = absurd e
  ends max limbo freed (Some busy) (u ∷ left) last z within rest e = (e.0, (u, first_at freed limbo u left rest, e.1))

  pub by_places : (x : X) (max : ℕ) (limbo : List ℕ) (freed : ℕ) (stopped : Option Busy) (left : List ℕ) (z : X)
      → model.Reclaims t x max limbo freed stopped left z → Reclaims t x max limbo freed stopped left z
  by_places x max limbo freed stopped left z r =
      let before = took freed limbo x left r.last r.front in
      record {
        at_most = r.at_most;
        within = before.within;
        last = r.last;
        passed = before.passed;
        rest = before.rest;
        end = ends max limbo freed stopped left r.last z before.within before.rest r.end;
      }
