-- Meaning: groups that were linked to blocks one after another go along with the links to them, and
-- room for more groups may lie behind them (Gupta, Lin and McKeown, INFOCOM 1998, section 3); and
-- the order of prefixes (this project's).
use Rattle.std.specs.Prelude.{ℕ, ◌≡◌, ◌^◌, ◌<◌, ◌≤◌, ◌↔◌, ◌⊎◌, List, ◌++◌, length, map, replicate}
use Rattle.lpm_bits.specs.Network.{Network}
use Rattle.lpm_rules.specs.RuleMap.{RuleMap, place}
use Rattle.lpm_groups.specs.declared.GroupState.TheVariants.{Free, Linked}
use Rattle.lpm_cells.specs.declared.entry.Entry.TheVariants.{Miss}
use Rattle.lpm_cells.specs.Words.{word_of}
use Rattle.lpm_update.specs.Represents.{Represents}
use Rattle.lpm_update.specs.BlockGroups.{group_at}
use Rattle.lpm_update.specs.GroupStates.{IsTied}
use Rattle.lpm_sweep.specs.SweepWords.{AreNumbered}

-- the prefix whose bits are less stands first, and of two with the same bits the shorter one
abbrev pub OrderIsByBits : Type 0
OrderIsByBits = (p q : Network) → p.len ≤ 32 → q.len ≤ 32
    → (place p ≤ place q) ↔ ((p.bits < q.bits) ⊎ ((p.bits ≡ q.bits) × (p.len ≤ q.len)))

-- groups that are linked to these blocks, in the order of their numbers, and free ones behind them
-- are tied to the links
abbrev pub NumberedAreTied : Type 0
NumberedAreTied = (first free : ℕ) (firsts blocks : List ℕ) → length firsts ≡ 2 ^ first
    → AreNumbered firsts blocks
    → IsTied first (map Linked blocks ++ replicate free Free) (group_at firsts)

-- words that represent a rule list do so with words of misses behind the second ones, which are room
-- for groups that no block has
abbrev pub RoomMayGrow : Type 0
RoomMayGrow = (first second more : ℕ) (R : RuleMap) (firsts seconds : List ℕ)
    → Represents first second R (record { firsts = firsts; seconds = seconds })
    → Represents first second R
    (record { firsts = firsts; seconds = seconds ++ replicate more (word_of Miss) })
