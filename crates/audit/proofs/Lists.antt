-- A list with one element more.
use Rattle.std.proofs.Common.{arith, ◌≡◌, ℕ, ◌+◌, ◌<◌, inl, inr, sym, subst, List, [], ◌∷◌, ◌++◌, length, get_or}
use Rattle.std.proofs.lemmas.Bool.{cases_lt}
use Rattle.std.proofs.lemmas.List.{get_or_append_left, get_or_push}

-- what holds of each element, by its place, and of one more
pub at_more : {X : Type 0} (n : ℕ) (P : ℕ → X → Type 0) (xs ys : List X) (x : X) → ys ≡ xs ++ x ∷ [] → length xs ≡ n
    → ((k : ℕ) (d : X) → k < n → P k (get_or xs k d)) → P n x → (k : ℕ) (d : X) → k < n + 1 → P k (get_or ys k d)
at_more n P xs ys x is long old new k d lt =
    subst (λ zs. P k (get_or zs k d)) (sym is)
    (elim (cases_lt k n) [
      | inl less ↦ subst (P k) (sym (get_or_append_left xs (x ∷ []) d k (omega (arith, less, long)))) (old k d less)
      | inr past ↦
          let here : n ≡ k = omega (arith, lt, past) in
          subst (λ m. P m (get_or (xs ++ x ∷ []) m d)) here (subst (P n) (sym (get_or_push xs x d n long)) new)
    ])
