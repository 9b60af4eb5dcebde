-- The passes of a bench after one of them was taken or put back.
use Rattle.std.proofs.Common.{ℕ, ◌≡◌, ◌<◌, inl, inr, refl, ap, sym, subst, ◌∙◌, arith, List, [], ◌∷◌, length, get_or, slice_get, Option, Some, None, zero, suc}
use Rattle.std.proofs.lemmas.List.{length-set}
use Rattle.std.proofs.lemmas.Option.{none-some, same_Some, slice_get_within, slice_get-get_or, slice_get_read}
use Rattle.atomic_table.specs.Seated.{TableId}
use Rattle.shared_words.specs.declared.view.View.{View}
use Rattle.std.specs.Prelude.{false, ◌⊎◌, slice_set, slice_index_or}
use Rattle.shared_fib.specs.RunningTable.{Identity}
use Rattle.shared_fib.specs.Passes.{PassState, IsPassOf, IsFullBench, IsBenchOf}

-- The passes of a table's workers, which were made one after another.

module _ (words : TableId) (v : View) where
  -- the pass of worker k
  abbrev pub pass_of : ℕ → PassState
  pass_of k = record {
    table = record { words = words; initial = v.initial };
    worker = k;
    online = false;
    steps = [];
    writer_steps = v.writer_steps;
  }

  -- the passes of the first n workers
  abbrev pub AreMade : ℕ → List (Option PassState) → Type 0
  AreMade n passes = (k : ℕ) → k < n → (other : Option PassState) → get_or passes k other ≡ Some (pass_of k)

  abbrev identity : Identity
  identity = record { words = words; initial = v.initial }

  module _ (passes : List (Option PassState)) (count : length passes ≡ v.initial.workers) (all : AreMade v.initial.workers passes) where
    here : (k : ℕ) → k < v.initial.workers → slice_get passes k ≡ Some (Some (pass_of k))
    here k low = slice_get-get_or passes k None (omega (arith, low, count)) ∙ ap Some (all k low None)

    is_of : (k : ℕ) (p : PassState) → slice_get passes k ≡ Some (Some p) → IsPassOf identity k p
    is_of k p found =
        let low = slice_get_within passes k (Some p) found in
        subst (IsPassOf identity k) (sym (same_Some p (pass_of k) (same_Some (Some p) (Some (pass_of k)) (sym found ∙ here k (omega (arith, low, count))))))
        (record { table = refl; worker = refl; offline = refl })

    pub full_bench : IsFullBench identity passes
    full_bench = ((count, is_of), λ k low. (pass_of k, here k low, refl))

-- what stands at a place after a store is what was stored, or what stood there
pub stored_or_old : {X : Type 0} (xs : List X) (i k : ℕ) (y x : X) → slice_get (slice_set xs i y) k ≡ Some x
    → ((k ≡ i) × (y ≡ x)) ⊎ (slice_get xs k ≡ Some x)
stored_or_old [] i k y x e = inr e
stored_or_old (z ∷ xs) zero zero y x e = inl (refl, same_Some y x e)
stored_or_old (z ∷ xs) zero (suc k) y x e = inr e
stored_or_old (z ∷ xs) (suc i) zero y x e = inr e
stored_or_old (z ∷ xs) (suc i) (suc k) y x e = elim (stored_or_old xs i k y x e) [
  | inl here ↦ inl (ap suc here.0, here.1)
  | inr old ↦ inr old
]

-- what was read at a place stands there
pub stands_at : (items now : List (Option PassState)) (i n : ℕ) (x : Option PassState) → items ≡ now → n ≡ length items → i < n
    → x ≡ slice_index_or items i x → slice_get now i ≡ Some x
stands_at items now i n x same len low read = subst (λ (l : List (Option PassState)). slice_get l i ≡ Some x) same (slice_get_read items n i x len low read)

-- a bench from which the pass at one place was taken
pub taken_off : (id : Identity) (passes : List (Option PassState)) (i : ℕ) → IsBenchOf id passes
    → IsBenchOf id (slice_set passes i None)
taken_off id passes i bench = (
  length-set passes i None ∙ bench.0,
  λ k p here. elim (stored_or_old passes i k None (Some p) here) [
    | inl now ↦ absurd (none-some p now.1)
    | inr old ↦ bench.1 k p old
  ],
)

-- a bench to which a pass was put back at its place
pub put_back : (id : Identity) (passes : List (Option PassState)) (i : ℕ) (q : PassState) → IsBenchOf id passes → IsPassOf id i q
    → IsBenchOf id (slice_set passes i (Some q))
put_back id passes i q bench pass = (
  length-set passes i (Some q) ∙ bench.0,
  λ k p here. elim (stored_or_old passes i k (Some q) (Some p) here) [
    | inl now ↦ subst (λ (z : ℕ × PassState). IsPassOf id z.0 z.1) (λ j. (sym now.0 j, same_Some q p now.1 j)) pass
    | inr old ↦ bench.1 k p old
  ],
)
