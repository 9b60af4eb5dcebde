-- Meaning: the answers of lookups that no version of the rules explains (this project's: each
-- change of a history makes a version, and an answer says from which version to which it may be).
use Rattle.std.specs.Prelude.{ℕ, suc, ◌≡◌, ◌+◌, ◌≤◌, ◌⊎◌, List, [], ◌∷◌, length, take}
use Rattle.std.specs.FinMap.{empty}
use Rattle.lpm_rules.specs.RuleMap.{RuleMap}
use Rattle.lpm_rules.specs.Changes.{rules_after}
use Rattle.lpm_rules.specs.Longest.{IsLongestHop}
use Rattle.lpm_rules.specs.declared.Change.{Change}
use Rattle.lpm_rules.specs.declared.Answer.{Answer}

-- the rules of version k of a history that begins with the rules R: those after its first k changes
abbrev pub version_from : {first second : ℕ} → RuleMap → List (Change first second) → ℕ → RuleMap
version_from R history k = rules_after R (take k history)

-- the same of a history that begins with no rules
abbrev pub version_of : {first second : ℕ} → List (Change first second) → ℕ → RuleMap
version_of history k = version_from empty history k

-- the answer for the address is the longest match in a version from `lo` to `hi` of the history, which
-- begins with the rules R
pub record IsOfSomeVersion {first second : ℕ} (R : RuleMap) (history : List (Change first second))
    (x : ℕ × Answer) : Type 0 where
  pub k : ℕ
  pub from : x.1.lo ≤ k
  pub to : k ≤ x.1.hi
  pub within : k ≤ length history
  pub answers : IsLongestHop (first + second) (version_from R history k) x.0 x.1.hop

-- just n of the answers are wrong: of no version of the history, which begins with the rules R
abbrev pub AreWrong : {first second : ℕ} → RuleMap → List (Change first second) → List (ℕ × Answer)
    → ℕ → Type 0
AreWrong R history [] n = n ≡ 0
AreWrong R history (x ∷ rest) n =
    ((¬ IsOfSomeVersion R history x) × ((m : ℕ) × (n ≡ suc m) × AreWrong R history rest m))
    ⊎ (IsOfSomeVersion R history x × AreWrong R history rest n)
