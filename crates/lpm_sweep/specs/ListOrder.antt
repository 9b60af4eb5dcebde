-- Meaning: rules that were brought into another order, in which those of one prefix keep theirs (this
-- project's).
use Rattle.std.specs.Prelude.{ℕ, ◌≡◌, ◌<◌, List, length, slice_get}
use Rattle.lpm_rules.specs.RuleMap.{prefix_at}
use Rattle.lpm_rules.specs.declared.Rule.{Rule}

-- the rules of ys are those of xs, each where `from` says that it stood, and those of one prefix
-- keep their order
pub record AreReordered {first second : ℕ} (xs ys : List (Rule first second)) : Type 0 where
  pub count : length ys ≡ length xs
  pub from : ℕ → ℕ
  pub same : (k : ℕ) → k < length ys → slice_get ys k ≡ slice_get xs (from k)
  pub all : (i : ℕ) → i < length xs → (k : ℕ) × (k < length ys) × (from k ≡ i)
  pub stable : (j k : ℕ) → j < length ys → k < length ys → prefix_at ys j ≡ prefix_at ys k
      → from j < from k → j < k
