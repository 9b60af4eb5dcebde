use Rattle.std.proofs.Common.{◌≡◌, ◌∙◌, ◌↔◌, sym, refl, subst, rules, codes, Option, Some, None, List, ℕ, Bool, true, false, IsTrue}
use Rattle.std.specs.Option.{unwrap_or}
use Rattle.std.specs.Str.Parse.{ParsesBool}
use Rattle.clap.specs.Words.{found_of, one_of, rows_of, ReadsOne}
use Rattle.clap.proofs.WalkLemmas.{one_text-rows}
use Rattle.lpm_options.proofs.requests.has_flag.Goals as goal

-- what is read is true just where the text is `true`
reads : (E : Type 0) (read : Option Bool) (text : Option (List ℕ)) → (text ≡ None → read ≡ None) → ((t : List ℕ) → text ≡ Some t → ReadsOne {T = Bool} {E = E} ParsesBool t read)
    → IsTrue (unwrap_or read false) ↔ (text ≡ Some (codes "true"))
reads E None text none value = ((λ e. absurd cc), λ is. absurd ((value _ is).1.0 refl))
reads E (Some true) None none value = let e = none refl in absurd cc
reads E (Some true) (Some t) none value = let e = value t refl in ((λ _. cc), λ _. search rules)
reads E (Some false) None none value = let e = none refl in absurd cc
reads E (Some false) (Some t) none value = let e = value t refl in ((λ is. absurd cc), λ is. absurd cc)

pub returns : goal.returns
returns c =
    let text = one_text-rows (found_of c.args.found.now) c.args.id.now in
    let is = reads _ c.get_one.result _ (λ none. c.get_one.ensures.none (text ∙ none)) (λ t some. c.get_one.ensures.value t (text ∙ some)) in
    subst (λ b. IsTrue b ↔ (one_of c.args.id.now (rows_of (found_of c.args.found.now)) ≡ Some (codes "true"))) (sym c.unwrap_or.ensures) is
