use Rattle.std.proofs.Common.{◌≡◌, ◌∙◌, ◌<◌, ◌^◌, sym, refl, subst, Option, Some, None, List, ℕ, Result}
use Rattle.std.specs.Prelude.{IfSome, IsNone}
use Rattle.std.specs.Str.Parse.{IsNumeral, digits_value, without_leading_plus, ParsesUnsigned, ExplainsUnsignedError, HasUnsignedDigitsIfOk}
use Rattle.std.specs.declared.num.ParseIntError.{ParseIntError}
use Rattle.clap.specs.Words.{found_of, ReadsOne}
use Rattle.clap.proofs.WalkLemmas.{one_text-rows}
use Rattle.lpm_options.proofs.requests.number_of.Goals as goal

-- a value has a text
some : {A : Type 0} (o : Option (List ℕ)) (v : A) → (o ≡ None → Some v ≡ None) → (t : List ℕ) × (o ≡ Some t)
some None v h = let e = h refl in absurd cc
some (Some t) v h = (t, refl)

of_each : {A : Type 0} (o : Option A) (P : A → Type 0) → ((v : A) → o ≡ Some v → P v) → IfSome o P
of_each None P h = tt
of_each (Some v) P h = h v refl

-- how a text is read as a number
abbrev Reads : List ℕ → Result ℕ ParseIntError → Type 0
Reads text r = ParsesUnsigned 64 10 text r × ExplainsUnsignedError 10 text r × HasUnsignedDigitsIfOk text r

pub returns-clause-number : goal.returns-clause-number
returns-clause-number c = of_each c.get_one.result _ (λ n is.
    let t = some _ n (λ absent. sym is ∙ c.get_one.ensures.none absent) in
    let v = subst (ReadsOne Reads t.0) is (c.get_one.ensures.value t.0 t.1) in
    (t.0, sym (one_text-rows (found_of c.args.found.now) c.args.id.now) ∙ t.1, v.0.0.0, sym v.0.1))

-- a text that isn't read has no number that fits
not_read : (o : Option ℕ) → IsNone o → (text : List ℕ) → ReadsOne Reads text o → IsNumeral 10 (without_leading_plus text) → digits_value 10 (without_leading_plus text) < 2 ^ 64 → ⊥
not_read None i text h numeral fits = h.1.0 (numeral, fits)
not_read (Some v) i text h numeral fits = absurd cc

pub returns-clause-none : goal.returns-clause-none
returns-clause-none c = λ none n has fits.
    not_read c.get_one.result none has.0 (c.get_one.ensures.value has.0 (one_text-rows (found_of c.args.found.now) c.args.id.now ∙ has.1))
    has.2 (subst (λ (m : ℕ). m < 2 ^ 64) (sym has.3) fits)
