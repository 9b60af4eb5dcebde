-- A fact of the value of an option that has one, and what is answered where there is no memory.
use Rattle.std.proofs.Common.{rules, ◌≡◌, ℤ, Option, Some, subst}
use Rattle.std.specs.Prelude.{IfSome}
use Rattle.lpm_limits.specs.Limits.{IsConfig}
use Rattle.lpm_limits.specs.declared.config.Config.{Config}
use Rattle.saxiko_c.specs.Status.{no_memory}
use Rattle.saxiko_c.specs.Table.{IsUnopened}

pub at_some : {A : Type 0} (P : A → Type 0) {o : Option A} {a : A} → o ≡ Some a → IfSome o P → P a
at_some {A} P e known = subst (λ (o : Option A). IfSome o P) e known

pub unopened : (config : Config) (status : ℤ) → IsConfig config → status ≡ no_memory → IsUnopened config status
unopened config status limits none = search rules
