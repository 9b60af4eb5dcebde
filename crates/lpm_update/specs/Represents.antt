-- Meaning: the words of a table represent a rule list, and a change of the words turns one list
-- into another (DPDK Programmer's Guide, "LPM Library", "Addition" and "Deletion").
use Rattle.std.specs.Prelude.{ℕ, Bool, true, false, ◌+◌, ◌/◌, ◌^◌, ◌<◌, ◌↔◌, IsSome, List, Option, Some, None, ◌==◌, if◌then◌else◌}
use Rattle.lpm_bits.specs.Network.{Network}
use Rattle.lpm_cells.specs.declared.entry.Entry.{Entry}
use Rattle.lpm_cells.specs.Words.{Words, HasRoom, entry_at}
use Rattle.lpm_rules.specs.RuleMap.{RuleMap, AllNetworks}
use Rattle.lpm_rules.specs.Deep.{IsDeepBlock}
use Rattle.lpm_update.specs.declared.update.Plan.{Plan}
use Rattle.lpm_update.specs.BlockGroups.{IsLinkTo, IsTable, group_at}
use Rattle.lpm_update.specs.Best.{AllBest}
use Rattle.lpm_update.specs.Update.{IsUnderWay, StandsSoFar, HasGroups, entry_after, group_after}

-- the blocks that have a group are those in which a rule longer than FIRST bits lies
abbrev pub HasDeepGroups : ℕ → ℕ → RuleMap → (ℕ → Option ℕ) → Type 0
HasDeepGroups first second R L =
    (i : ℕ) → i < 2 ^ first → IsSome (L i) ↔ IsDeepBlock first second R i

-- the words represent the rule list: each address has the entry of its longest rule, and just the
-- blocks of the rules longer than FIRST bits have a group, each its own
pub record Represents (first second : ℕ) (R : RuleMap) (t : Words) : Type 0 where
  pub table : IsTable first second t
  pub networks : AllNetworks (first + second) R
  pub best : AllBest (first + second) R (entry_at second t)
  pub groups : HasDeepGroups first second R (group_at t.firsts)

-- the entries and groups that represent R become those that represent R', once the change is made
pub record TurnsInto (first second : ℕ) (u : Plan) (R R' : RuleMap) : Type 0 where
  pub networks : AllNetworks (first + second) R → AllNetworks (first + second) R'
  pub best : (E : ℕ → Entry) → AllBest (first + second) R E
      → AllBest (first + second) R' (entry_after (first + second) u E)
  pub groups : (L : ℕ → Option ℕ) → HasDeepGroups first second R L
      → HasDeepGroups first second R' (group_after u L)

-- the change may begin on these words, and has stored nothing yet
pub record IsBegun (first second : ℕ) (u : Plan) (t : Words) : Type 0 where
  pub under_way : IsUnderWay first second u t
  pub stands : StandsSoFar second u t (entry_at second t)
  pub groups : HasGroups first second u t.firsts (group_at t.firsts)

-- a group that no block has, with room for its words
pub record IsFreshGroup (second g : ℕ) (t : Words) : Type 0 where
  pub small : g < 2 ^ 24
  pub room : HasRoom second t.seconds g
  pub free : (i : ℕ) → IsLinkTo t.firsts i g → ⊥

-- a rule is added by a fresh group just where it is longer than FIRST bits and its block has none
abbrev pub AddFits : ℕ → ℕ → RuleMap → Network → Words → Option ℕ → Type 0
AddFits first second R p t None = first < p.len → IsDeepBlock first second R (p.bits / 2 ^ second)
AddFits first second R p t (Some g) =
    (first < p.len) × ¬ (IsDeepBlock first second R (p.bits / 2 ^ second)) × IsFreshGroup second g t

-- R is the list that a rule has gone from: the rule was longer than FIRST bits, and left no such
-- rule in its block; or it is not so
abbrev pub LastFits : ℕ → ℕ → RuleMap → Network → Bool → Type 0
LastFits first second R p true =
    (first < p.len) × ¬ (IsDeepBlock first second R (p.bits / 2 ^ second))
LastFits first second R p false = first < p.len → IsDeepBlock first second R (p.bits / 2 ^ second)

-- the group that a block has, or that an add by this group stores for it
abbrev pub held_with : Option ℕ → ℕ → List ℕ → ℕ → Option ℕ
held_with None block firsts i = group_at firsts i
held_with (Some g) block firsts i = if i == block then Some g else group_at firsts i
