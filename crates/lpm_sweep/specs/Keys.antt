-- This layer's own: rules sorted by numbers, each of which has the place of a rule's prefix in the
-- order, and below it where the rule stands in the list.
use Rattle.std.specs.Prelude.{ℕ, ◌≡◌, ◌+◌, ◌*◌, ◌^◌, ◌<◌, List, length, slice_index}
use Rattle.lpm_rules.specs.declared.Rule.{Rule}
use Rattle.lpm_rules.specs.RuleMap.{place, prefix_at}

abbrev pub key_at : {first second : ℕ} → List (Rule first second) → ℕ → ℕ
key_at rs i = place (prefix_at rs i) * 2 ^ 26 + i

-- these are the keys of the rules, in the order of the list
pub record AreKeys {first second : ℕ} (rs : List (Rule first second)) (keys : List ℕ)
    : Type 0 where
  pub all : length keys ≡ length rs
  pub each : (i : ℕ) → i < length rs → slice_index keys i ≡ key_at rs i
