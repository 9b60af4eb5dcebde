-- There is one first holder, one reclaim, and one way in which unlinkings come out.
use Rattle.std.proofs.Common.{arith, ◌≡◌, ℕ, ◌+◌, ◌<◌, ◌≤◌, inl, inr, ap, sym, ◌∙◌, subst, List, [], ◌∷◌, length, Option, Some, None, zero, suc, ◌⊎◌, refl, ◌++◌, slice_get}
use Rattle.std.proofs.lemmas.Bool.{cases_lt}
use Rattle.fib_model.specs.declared.event.Event.{Event}
use Rattle.qsbr.specs.Intervals.{IsRunningSince}
use Rattle.fib_model.specs.Textbook.{by_reports, textbook, IsFirstHolder}
use Rattle.qsbr.proofs.RunningIntervals.{held_start}
use Rattle.std.proofs.lemmas.Option.{same_Some}
use Rattle.lpm_limits.specs.declared.busy.Busy.{Busy}
use Rattle.lpm_limits.specs.declared.config.Config.{Config}
use Rattle.fib_model.specs.declared.event.Event.TheVariants.{Unlinking}
use Rattle.defer_queue.specs.Reclaims.{Ends, FreesFront}
use Rattle.fib_model.specs.State.{State, Reclaims, MakesRoom, Unlinks}
use Rattle.fib_model.specs.Outcomes.{HoldsFront}

-- the first holder of an unlinking
pub one_holder : (c : Config) (E : List Event) (place : ℕ) (a b : Busy) → IsFirstHolder c.first_token E place a → IsFirstHolder c.first_token E place b → a ≡ b
one_holder c E place a b h k = elim (cases_lt a.worker b.worker) [
  | inl low ↦ absurd (k.first a.worker low h.holds)
  | inr high ↦ elim (cases_lt b.worker a.worker) [
    | inl low ↦ absurd (h.first b.worker low k.holds)
    | inr low ↦
        let is : a.worker ≡ b.worker = omega (arith, high, low) in
        let start = held_start by_reports E place a.worker h.holds in
        let counter = h.counter start.0 start.1 ∙ sym (k.counter start.0 (subst (λ w. IsRunningSince by_reports E w start.0) is start.1)) in
        λ i. record { worker = is i; counter = counter i }
  ]
]

-- no worker holds the unlinking
abbrev pub IsUnheld : Config → List Event → ℕ → Type 0
IsUnheld c E u = (busy : Busy) → ¬ IsFirstHolder c.first_token E u busy

-- the busy worker that holds the front, if one does
pub one_front : (c : Config) (s : State (List Event)) (y y' : List Event) (a b : Option Busy) → HoldsFront (textbook c) s a y → HoldsFront (textbook c) s b y' → a ≡ b
one_front c s y y' None None h k = refl
one_front c s y y' None (Some b) h k = let no : None ≡ Some k.0 = ap (λ l. slice_get l 0) (sym h.0) ∙ k.1 in cc
one_front c s y y' (Some a) None h k = let no : None ≡ Some h.0 = ap (λ l. slice_get l 0) (sym k.0) ∙ h.1 in cc
one_front c s y y' (Some a) (Some b) h k =
    let same : h.0 ≡ k.0 = same_Some h.0 k.0 (sym h.1 ∙ k.1) in
    ap Some (one_holder c s.readers k.0 a b (subst (λ u. IsFirstHolder c.first_token s.readers u a) same h.2.0) k.2.0)

-- ---- reclaims

-- to free a group changes no event
abbrev pub Freed : List Event → ℕ → List Event → Type 0
Freed E name z = z ≡ E

-- a reclaim that may take more and has more to take hasn't come to its end
not_all : (max n u : ℕ) (limbo : List ℕ) → n < max → (n ≡ max) ⊎ (u ∷ limbo ≡ []) → ⊥
not_all max n u limbo low (inl all) = absurd (omega (arith, all, low))
not_all max n u limbo low (inr none) = absurd (cc)

not_ended : (c : Config) (max n u : ℕ) (limbo : List ℕ) (E z : List Event) (a : Option Busy) → n < max → IsUnheld c E u → Ends (textbook c).checks Freed max n (u ∷ limbo) E a z → ⊥
not_ended c max n u limbo E z None low unheld e = not_all max n u limbo low e.0
not_ended c max n u limbo E z (Some busy) low unheld e = unheld busy e.1.0

one_end : (c : Config) (max n : ℕ) (limbo : List ℕ) (E z z' : List Event) (a b : Option Busy) → Ends (textbook c).checks Freed max n limbo E a z → Ends (textbook c).checks Freed max n limbo E b z' → (a ≡ b) × (z ≡ z')
one_end c max n limbo E z z' None None h k = (refl, h.1 ∙ sym k.1)
one_end c max n [] E z z' None (Some b) h k = absurd k
one_end c max n [] E z z' (Some a) b h k = absurd h
one_end c max n (u ∷ limbo) E z z' None (Some b) h k = absurd (not_all max n u limbo k.0 h.0)
one_end c max n (u ∷ limbo) E z z' (Some a) None h k = absurd (not_all max n u limbo h.0 k.0)
one_end c max n (u ∷ limbo) E z z' (Some a) (Some b) h k = (ap Some (one_holder c E u a b h.1.0 k.1.0), h.1.1 ∙ sym k.1.1)

ends_at : (c : Config) (max n : ℕ) (left limbo : List ℕ) (last E z : List Event) (a : Option Busy) → left ≡ limbo → last ≡ E → Ends (textbook c).checks Freed max n left last a z → Ends (textbook c).checks Freed max n limbo E a z
ends_at c max n left limbo last E z a is same e = subst (λ l. Ends (textbook c).checks Freed max n l E a z) is (subst (λ F. Ends (textbook c).checks Freed max n left F a z) same e)

-- two reclaims that have both taken k, and take n and m more
one_rest : (c : Config) (max k n m i j : ℕ) (limbo : List ℕ) (E last last' z z' : List Event) (a b : Option Busy) (left left' : List ℕ) → i ≡ k + n → j ≡ k + m → i ≤ max → j ≤ max
    → FreesFront (textbook c).checks Freed n limbo E left last → Ends (textbook c).checks Freed max i left last a z
    → FreesFront (textbook c).checks Freed m limbo E left' last' → Ends (textbook c).checks Freed max j left' last' b z' → (i ≡ j) × (a ≡ b) × (left ≡ left') × (z ≡ z')
one_rest c max k zero zero i j limbo E last last' z z' a b left left' is js most most' h e h' e' =
    let same : j ≡ i = omega (arith, is, js) in
    let end = one_end c max i limbo E z z' a b (ends_at c max i left limbo last E z a h.0 h.1 e) (ends_at c max i left' limbo last' E z' b h'.0 h'.1 (subst (λ n. Ends (textbook c).checks Freed max n left' last' b z') same e')) in
    (sym same, end.0, h.0 ∙ sym h'.0, end.1)
one_rest c max k zero (suc m) i j [] E last last' z z' a b left left' is js most most' h e h' e' = absurd h'
one_rest c max k zero (suc m) i j (u ∷ limbo) E last last' z z' a b left left' is js most most' h e h' e' =
    absurd (not_ended c max i u limbo E z a (omega (arith, is, js, most')) h'.2.0 (ends_at c max i left (u ∷ limbo) last E z a h.0 h.1 e))
one_rest c max k (suc n) m i j [] E last last' z z' a b left left' is js most most' h e h' e' = absurd h
one_rest c max k (suc n) zero i j (u ∷ limbo) E last last' z z' a b left left' is js most most' h e h' e' =
    absurd (not_ended c max j u limbo E z' b (omega (arith, is, js, most)) h.2.0 (ends_at c max j left' (u ∷ limbo) last' E z' b h'.0 h'.1 e'))
one_rest c max k (suc n) (suc m) i j (u ∷ limbo) E last last' z z' a b left left' is js most most' h e h' e' =
    one_rest c max (suc k) n m i j limbo E last last' z z' a b left left' (omega (arith, is)) (omega (arith, js)) most most'
    (subst (λ F. FreesFront (textbook c).checks Freed n limbo F left last) (h.3 ∙ h.2.1) h.4) e
    (subst (λ F. FreesFront (textbook c).checks Freed m limbo F left' last') (h'.3 ∙ h'.2.1) h'.4) e'

pub one_reclaims : (c : Config) (E z z' : List Event) (max : ℕ) (limbo : List ℕ) (n m : ℕ) (a b : Option Busy) (left left' : List ℕ)
    → Reclaims (textbook c) E max limbo n a left z → Reclaims (textbook c) E max limbo m b left' z' → (n ≡ m) × (a ≡ b) × (left ≡ left') × (z ≡ z')
one_reclaims c E z z' max limbo n m a b left left' h k =
    one_rest c max 0 n m n m limbo E h.last k.last z z' a b left left' (omega arith) (omega arith) h.at_most k.at_most h.front h.end k.front k.end

-- ---- unlinkings

one_room : (c : Config) (E z z' : List Event) (limbo left left' : List ℕ) → MakesRoom (textbook c) c E limbo left z → MakesRoom (textbook c) c E limbo left' z' → (left ≡ left') × (z ≡ z')
one_room c E z z' limbo left left' h k = elim (cases_lt c.threshold (length limbo)) [
  | inl over ↦
      let a = h.0 over in
      let b = k.0 over in
      let same = one_reclaims c E z z' c.reclaim_max limbo a.0 b.0 a.1 b.1 left left' a.2 b.2 in
      (same.2, same.3)
  | inr within ↦
      let a = h.1 within in
      let b = k.1 within in
      (a.0 ∙ sym b.0, a.1 ∙ sym b.1)
]

pub one_unlinks : (c : Config) (n : ℕ) (E E' : List Event) (limbo : List ℕ) (z z' : List Event) (left left' : List ℕ) → E ≡ E'
    → Unlinks (textbook c) c n E limbo z left → Unlinks (textbook c) c n E' limbo z' left' → (z ≡ z') × (left ≡ left')
one_unlinks c zero E E' limbo z z' left left' is h k = (h.0 ∙ is ∙ sym k.0, h.1 ∙ sym k.1)
one_unlinks c (suc n) E E' limbo z z' left left' is h k =
    let before = one_unlinks c n E E' limbo h.0 k.0 h.1 k.1 is h.2 k.2 in
    let a = h.3 in
    let b = k.3 in
    let name : a.0 ≡ b.0 = a.3.0 ∙ ap length before.0 ∙ sym b.3.0 in
    let events : a.1 ≡ b.1 = a.3.1 ∙ ap (λ F. Unlinking ∷ F) before.0 ∙ sym b.3.1 in
    let room = subst (λ F. MakesRoom (textbook c) c F k.1 a.2 z) events (subst (λ l. MakesRoom (textbook c) c a.1 l a.2 z) before.1 a.4) in
    let same = one_room c b.1 z z' k.1 a.2 b.2 room b.4 in
    (same.1, a.5 ∙ ap (λ l. l ++ a.0 ∷ []) same.0 ∙ ap (λ u. b.2 ++ u ∷ []) name ∙ sym b.5)
