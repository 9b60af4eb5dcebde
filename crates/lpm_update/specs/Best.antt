-- Meaning: the entry of the longest rule that covers an address (Gupta, Lin and McKeown, INFOCOM
-- 1998, section 1: the longest prefix that matches), with the length of that rule.
use Rattle.std.specs.Prelude.{ℕ, ◌≡◌, ◌≤◌, ◌<◌, ◌^◌, Some, IsSome}
use Rattle.std.specs.FinMap.{get}
use Rattle.lpm_bits.specs.Network.{Network, Covers}
use Rattle.lpm_rules.specs.RuleMap.{RuleMap}
use Rattle.lpm_cells.specs.declared.entry.Entry.{Entry}
use Rattle.lpm_cells.specs.declared.entry.Entry.TheVariants.{Miss, Hop, Group}

-- e is the entry of the longest rule of R that covers a, a miss where no rule does
abbrev pub IsBest : ℕ → RuleMap → ℕ → Entry → Type 0
IsBest width R a Miss = (q : Network) → IsSome (get R q) → Covers width q a → ⊥
IsBest width R a (Hop h d) =
    (p : Network) × (get R p ≡ Some h) × (p.len ≡ d) × Covers width p a
    × ((q : Network) → IsSome (get R q) → Covers width q a → q.len ≤ d)
IsBest width R a (Group g) = ⊥

-- each address has the entry of its longest rule
abbrev pub AllBest : ℕ → RuleMap → (ℕ → Entry) → Type 0
AllBest width R E = (a : ℕ) → a < 2 ^ width → IsBest width R a (E a)
