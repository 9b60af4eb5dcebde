use Rattle.std.proofs.Common.{◌≡◌, ℕ, List, [], ◌∷◌, refl, ap, sym, ◌∙◌}
use Rattle.std.specs.Prelude.{◌==◌, if◌then◌else◌, None, sum}
use Rattle.lpm_limits.specs.declared.refusal.Refusal.{Refusal}
use Rattle.lpm_limits.specs.declared.refusal.Refusal.TheVariants as refusals
use Rattle.lpm_limits.specs.Refusals.{row_of, kind_of, HaveOwnNumbers, HaveOwnNames}

abbrev all : List Refusal
all = refusals.BadLength ∷ refusals.BadHop ∷ refusals.TooManyRules ∷ refusals.NoSuchRule
    ∷ refusals.BadConfig ∷ refusals.Exhausted ∷ refusals.NoGroups None ∷ refusals.NoWorkers
    ∷ refusals.Memory ∷ refusals.NoSuchWorker ∷ refusals.Taken ∷ refusals.NoThread
    ∷ refusals.NotOnline ∷ refusals.AlreadyOnline ∷ []

-- the first of these refusals that has the key
abbrev first : (Refusal → ℕ) → List Refusal → ℕ → Refusal
first key [] k = refusals.BadLength
first key (r ∷ rs) k = if key r == k then r else first key rs k

-- where each refusal is the first of its key, the key tells it
told : (key : Refusal → ℕ) → ((r : Refusal) → kind_of r ≡ first key all (key r)) → (a b : Refusal) → key a ≡ key b → kind_of a ≡ kind_of b
told key is a b e = is a ∙ (ap (first key all) e ∙ sym (is b))

abbrev number_of : Refusal → ℕ
number_of r = (row_of r).0

-- the codes of a name, added up; no two names have one sum
abbrev sum_of : Refusal → ℕ
sum_of r = sum (row_of r).1

-- each refusal is the first of its number, and of its sum
by_number : (r : Refusal) → kind_of r ≡ first number_of all (number_of r)
by_number (refusals.NoGroups oldest) = refl
by_number r = refl

by_sum : (r : Refusal) → kind_of r ≡ first sum_of all (sum_of r)
by_sum (refusals.NoGroups oldest) = refl
by_sum r = refl

pub own_numbers : HaveOwnNumbers
own_numbers a b e = told number_of by_number a b e

pub own_names : HaveOwnNames
own_names a b e = told sum_of by_sum a b (ap sum e)
