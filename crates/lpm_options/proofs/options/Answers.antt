use Rattle.std.proofs.Common.{◌≡◌, ◌∙◌, sym, ap, refl, true, subst, map, [], Option, List}
use Rattle.std.specs.Prelude.{IfOk, IfErr}
use Rattle.std.specs.Fmt.{digits}
use Rattle.std.proofs.lemmas.Result.{IfOk-weaker}
use Rattle.clap.specs.Words.{App, Row, Text, Kinds, HasKind, is_simple, is_simple_and_free}
use Rattle.clap.specs.Words.{subcommand_of, fault_of}
use Rattle.clap.proofs.OnLiterals.{clap_on_literals}
use Rattle.lpm_options.specs.Commands.{the_app}
use Rattle.lpm_options.specs.Requests.{IsAskedBy, IsRefusalBy}
use Rattle.lpm_options.proofs.options.Goals as goal

simple : is_simple the_app ≡ true
unfolding the_app clap_on_literals digits
simple = refl

simple_and_free : is_simple_and_free the_app ≡ true
unfolding the_app clap_on_literals digits
simple_and_free = refl

-- what the words ask for, and their faults, of equal commands
same_ask : (a b : App) (words : List Text) → a ≡ b → subcommand_of a words ≡ subcommand_of b words
same_ask a b words e = ap (λ (x : App). subcommand_of x words) e

same_faults : (a b : App) (words : List Text) → a ≡ b → fault_of a words ≡ fault_of b words
same_faults a b words e = ap (λ (x : App). fault_of x words) e

pub returns-in-Ok-try_get_matches_from-clause-asked : goal.returns-in-Ok-try_get_matches_from-clause-asked
returns-in-Ok-try_get_matches_from-clause-asked g c =
    let app = c.in-Ok.ensures in
    let words = map g.S.AsStr.text c.args.words.now in
    let m = c.in-Ok-try_get_matches_from.ensures.matches (ap is_simple app ∙ simple) in
    subst (λ (asked : Option (Text × List Row)). IfOk c.line_of.result (IsAskedBy asked)) (m.1 ∙ same_ask _ _ words app) c.line_of.ensures.asked

pub returns-in-Ok-try_get_matches_from-clause-accepted : goal.returns-in-Ok-try_get_matches_from-clause-accepted
returns-in-Ok-try_get_matches_from-clause-accepted g c =
    let app = c.in-Ok.ensures in
    let words = map g.S.AsStr.text c.args.words.now in
    let kinds = c.in-Ok-try_get_matches_from.ensures.kinds (ap is_simple_and_free app ∙ simple_and_free) in
    IfOk-weaker c.line_of.result _ _ (λ _ _. sym (same_faults _ _ words app) ∙ kinds) c.line_of.ensures.in_range

pub returns-in-Ok-try_get_matches_from-clause-refused : goal.returns-in-Ok-try_get_matches_from-clause-refused
returns-in-Ok-try_get_matches_from-clause-refused g c =
    let app = c.in-Ok.ensures in
    let words = map g.S.AsStr.text c.args.words.now in
    let m = c.in-Ok-try_get_matches_from.ensures.matches (ap is_simple app ∙ simple) in
    let none = sym (same_faults _ _ words app) ∙ c.in-Ok-try_get_matches_from.ensures.kinds (ap is_simple_and_free app ∙ simple_and_free) in
    subst (λ (faults : Kinds). IfErr c.line_of.result (IsRefusalBy faults (subcommand_of the_app words))) (sym none)
    (subst (λ (asked : Option (Text × List Row)). IfErr c.line_of.result (IsRefusalBy [] asked)) (m.1 ∙ same_ask _ _ words app) c.line_of.ensures.refused)

pub returns-in-Err-clause-refused : goal.returns-in-Err-clause-refused
returns-in-Err-clause-refused g c =
    let app = c.in-Ok.ensures in
    let words = map g.S.AsStr.text c.args.words.now in
    let kinds = c.in-Err.ensures.kinds (ap is_simple_and_free app ∙ simple_and_free) in
    c.refusal.ensures _ _ (subst (λ (faults : Kinds). HasKind faults c.in-Err.error) (same_faults _ _ words app) kinds)
