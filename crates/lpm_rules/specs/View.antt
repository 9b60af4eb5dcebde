-- This layer's own: the rule list as it is kept (this project's): for each length a map from the
-- bits of the prefixes of that length to their next hops.
use Rattle.std.specs.Prelude.{ℕ, ◌≡◌, ◌+◌, List, [], ◌∷◌, ◌++◌, map, length}
use Rattle.std.specs.BTreeMap.{BTreeMap}
use Rattle.std.specs.FinMap.{from_entries, len}
use Rattle.lpm_bits.specs.Network.{Network}
use Rattle.lpm_bits.specs.Widths.{IsShape}
use Rattle.lpm_rules.specs.RuleMap.{RuleMap, AllNetworks}

-- the rules of one length
abbrev pub of_length : ℕ → List (ℕ × ℕ) → List (Network × ℕ)
of_length len es = map {B = Network × ℕ} (λ (e : ℕ × ℕ). (record { bits = e.0; len = len }, e.1)) es

-- the rules of the maps of the lengths len, len + 1 ..
abbrev pub entries_from : ℕ → List (BTreeMap ℕ ℕ) → List (Network × ℕ)
entries_from len [] = []
entries_from len (m ∷ ms) = of_length len m.entries ++ entries_from (len + 1) ms

abbrev pub rules_of_lengths : List (BTreeMap ℕ ℕ) → RuleMap
rules_of_lengths ms = from_entries (entries_from 0 ms)

-- what the maps and the number of rules keep
pub record IsSound (first second : ℕ) (ms : List (BTreeMap ℕ ℕ)) (count : ℕ) : Type 0 where
  pub shape : IsShape first second
  pub lengths : length ms ≡ 33
  pub networks : AllNetworks (first + second) (rules_of_lengths ms)
  pub counted : count ≡ len (rules_of_lengths ms)
