-- Meaning: the longest matching rule, and the rule that a deleted one uncovers (Gupta, Lin and
-- McKeown, INFOCOM 1998, section 1: the longest prefix that matches; DPDK Programmer's Guide,
-- "LPM Library", "Deletion": the longest rule that is shorter and covers the deleted one takes
-- its place).
use Rattle.std.specs.Prelude.{ℕ, ◌≡◌, ◌≤◌, ◌<◌, List, Option, Some, None, IsSome, ◌+◌}
use Rattle.std.specs.List.{AllZip}
use Rattle.std.specs.FinMap.{get}
use Rattle.lpm_bits.specs.Network.{Network, Covers, prefix_of}
use Rattle.lpm_rules.specs.RuleMap.{RuleMap, AllNetworks}
use Rattle.lpm_rules.specs.declared.Rule.{Rule}

-- p covers a, and no rule that covers a is longer
pub record IsLongest (width : ℕ) (R : RuleMap) (a : ℕ) (p : Network) : Type 0 where
  pub covers : Covers width p a
  pub longest : (q : Network) → IsSome (get R q) → Covers width q a → q.len ≤ p.len

-- the next hop of the longest rule that covers a; none where no rule does
abbrev pub IsLongestHop : ℕ → RuleMap → ℕ → Option ℕ → Type 0
IsLongestHop width R a None = (q : Network) → IsSome (get R q) → Covers width q a → ⊥
IsLongestHop width R a (Some h) = (p : Network) × (get R p ≡ Some h) × IsLongest width R a p

-- as many hops as addresses, and each is that of the longest match of the address at its place
abbrev pub AreLongestHops : ℕ → RuleMap → List ℕ → List (Option ℕ) → Type 0
AreLongestHops width R addrs hops = AllZip (IsLongestHop width R) addrs hops

-- no rule that is shorter than p covers it
abbrev pub IsUncovered : ℕ → RuleMap → Network → Type 0
IsUncovered width R p = (q : Network) → IsSome (get R q) → q.len < p.len → Covers width q p.bits → ⊥

-- c, with next hop h, is the longest of the rules that are shorter than p and cover it
pub record IsCoverRule (width : ℕ) (R : RuleMap) (p c : Network) (h : ℕ) : Type 0 where
  pub rule : get R c ≡ Some h
  pub shorter : c.len < p.len
  pub covers : Covers width c p.bits
  pub longest : (q : Network) → IsSome (get R q)
      → q.len < p.len → Covers width q p.bits → q.len ≤ c.len

-- the longest of the rules that are shorter than p and cover it, with its next hop; none where
-- there is no such rule
abbrev pub IsCover : ℕ → RuleMap → Network → Option (Network × ℕ) → Type 0
IsCover width R p None = IsUncovered width R p
IsCover width R p (Some c) = IsCoverRule width R p c.0 c.1

-- an address has one longest hop in a rule list
abbrev pub HasOneLongestHop : Type 0
HasOneLongestHop = (width : ℕ) (R : RuleMap) (a : ℕ) (x y : Option ℕ)
    → AllNetworks width R → IsLongestHop width R a x → IsLongestHop width R a y → x ≡ y

-- a prefix has one cover in a rule list
abbrev pub HasOneCover : Type 0
HasOneCover = (width : ℕ) (R : RuleMap) (p : Network) (x y : Option (Network × ℕ))
    → AllNetworks width R → IsCover width R p x → IsCover width R p y → x ≡ y

-- The rule that answers an address (Gupta, Lin and McKeown, INFOCOM 1998, section 1: that of the
-- longest prefix that matches).

-- the rule of the longest prefix of the address that has a rule; none where no prefix of it has one
abbrev pub IsMatch : (first second : ℕ) → RuleMap → ℕ → Option (Rule first second) → Type 0
IsMatch first second R addr None = (len : ℕ) → len ≤ first + second → get R (prefix_of (first + second) len addr) ≡ None
IsMatch first second R addr (Some rule) = (get R rule.prefix ≡ Some rule.hop)
    × (rule.prefix ≡ prefix_of (first + second) rule.prefix.len addr)
    × ((len : ℕ) → rule.prefix.len < len → len ≤ first + second → get R (prefix_of (first + second) len addr) ≡ None)
