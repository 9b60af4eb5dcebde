use Rattle.std.proofs.Common.{◌≡◌, ◌∙◌, ap, sym, refl, subst, Bool, true, false, not, ◌&&◌, Option, Some, Result, Ok, Err}
use Rattle.std.specs.Prelude.{IfOk, IfSome}
use Rattle.std.specs.Option.{option_zip}
use Rattle.std.specs.Result.{result_ok}
use Rattle.std.proofs.lemmas.Result.{IfOk-weaker}
use Rattle.clap.specs.Words.{App, app_of}
use Rattle.lpm_options.specs.Commands.{with_command}
use Rattle.lpm_options.proofs.commands.with_command.Goals as goal

-- a command with plain fields has no global argument
third : (a b g rest : Bool) → (a && (not b && (not g && rest))) ≡ true → g ≡ false
third false b g rest e = absurd cc
third true true g rest e = absurd cc
third true false true rest e = absurd cc
third true false false rest e = refl

-- what is known of two results is known of the pair that they make
both : {T E : Type 0} (a b : Result T E) (x y : T) (P Q : T → Type 0) → option_zip (result_ok a) (result_ok b) ≡ Some (x, y) → IfOk a P → IfOk b Q → P x × Q y
both (Ok p) (Ok q) x y P Q e h k = subst (λ (o : Option _). IfSome o (λ v. P v.0 × Q v.1)) e (h, k)
both (Ok p) (Err f) x y P Q e h k = absurd cc
both (Err d) b x y P Q e h k = absurd cc

pub returns : goal.returns
returns c = λ program app is_program is_app.
    let pair = sym (c.zip.ensures ∙ ap (λ o. option_zip o c.ok-2.result) c.ok.ensures.value ∙ ap (option_zip _) c.ok-2.ensures.value) ∙ c.in-Some.is in
    let apps = both c.args.made c.args.command _ _ (λ x. app_of x ≡ program) (λ x. app_of x ≡ app) pair is_program is_app in
    let plain = both c.args.made c.args.command _ _ (λ x. app_of x ≡ program) (λ x. (app_of x).top.is_plain ≡ true) pair is_program c.requires in
    IfOk-weaker c.subcommand.result _ _ (λ r h. h.shape (third _ _ _ _ plain.1) ∙ ap (λ (a : App). with_command a (app_of c.in-Some.command)) apps.0 ∙ ap (with_command program) apps.1) c.subcommand.ensures
