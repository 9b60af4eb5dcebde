-- Meaning: a change of the words, by what it does to the range of a rule, and how far it has come
-- (this project's; what a change does is that of the DPDK Programmer's Guide, "LPM Library").
use Rattle.std.specs.Prelude.{ℕ, true, false, ◌≡◌, ◌≢◌, ◌+◌, ◌-◌, ◌*◌, ◌/◌, ◌%◌, ◌⊎◌, ◌^◌, ◌≤◌, ◌<◌, ◌==◌, ◌&&◌, nat_le, nat_lt, if◌then◌else◌, List, Option, Some, None}
use Rattle.lpm_cells.specs.declared.entry.Entry.{Entry}
use Rattle.lpm_cells.specs.Words.{Words}
use Rattle.lpm_update.specs.declared.rewrite.Rewrite.{Rewrite}
use Rattle.lpm_update.specs.declared.update.Plan.{Plan}
use Rattle.lpm_update.specs.declared.update.Plan.TheVariants.{Range, Link, Unlink, Flush}
use Rattle.lpm_update.specs.Rewrite.{Stands, Skips}
use Rattle.lpm_update.specs.BlockGroups.{IsLinkTo, group_at}
use Rattle.lpm_update.specs.Kinds.{IsRewriting, IsFurther, IsFirstStore, IsSecondStore, IsLinking, IsFillStore, IsLinkStore, reach_of_link, final_entry, IsUnlinking, IsUnlinkStore, rewrite_to_miss, IsFlushStore}

-- the first address of the range
abbrev pub from_of : Plan → ℕ
from_of (Range u) = u.from
from_of (Link u) = u.from
from_of (Unlink u) = u.range.from
from_of (Flush u) = 0

-- past the last address of the range
abbrev pub end_of : ℕ → Plan → ℕ
end_of width (Range u) = u.end
end_of width (Link u) = u.end
end_of width (Unlink u) = u.range.end
end_of width (Flush u) = 2 ^ width

-- past the addresses that answer as after the change
abbrev pub reached_of : ℕ → Plan → ℕ
reached_of second (Range u) = u.at
reached_of second (Link u) = reach_of_link second u
reached_of second (Unlink u) = u.range.at
reached_of second (Flush u) = u.next * 2 ^ second

-- what the change makes of the entries of its range
abbrev pub rewrite_of : Plan → Rewrite
rewrite_of (Range u) = u.rewrite
rewrite_of (Link u) = u.rewrite
rewrite_of (Unlink u) = u.range.rewrite
rewrite_of (Flush u) = rewrite_to_miss

-- the entry of an address after the change
abbrev pub entry_after : ℕ → Plan → (ℕ → Entry) → ℕ → Entry
entry_after width u E a = final_entry (from_of u) (end_of width u) (rewrite_of u) a (E a)

-- the group that a block has by now, where L has the groups before the change
abbrev pub group_by_now : ℕ → Plan → (ℕ → Option ℕ) → ℕ → Option ℕ
group_by_now second (Range u) L i = L i
group_by_now second (Link u) L i =
    if nat_le u.next (2 ^ second) then L i else (if i == u.block then Some u.group else L i)
group_by_now second (Unlink u) L i = if u.unlinked && i == u.block then None else L i
group_by_now second (Flush u) L i = if nat_lt i u.next then None else L i

-- the group that a block has after the change
abbrev pub group_after : Plan → (ℕ → Option ℕ) → ℕ → Option ℕ
group_after (Range u) L i = L i
group_after (Link u) L i = if i == u.block then Some u.group else L i
group_after (Unlink u) L i = if i == u.block then None else L i
group_after (Flush u) L i = None

-- the words are those of a table with the change under way
abbrev pub IsUnderWay : ℕ → ℕ → Plan → Words → Type 0
IsUnderWay first second (Range u) t = IsRewriting first second u.from u.at u.end u.rewrite t.firsts
IsUnderWay first second (Link u) t = IsLinking first second u t
IsUnderWay first second (Unlink u) t =
    (u.unlinked ≡ false → IsUnlinking first second u.range u.block t)
    × (u.unlinked ≡ true → u.range.at ≡ u.range.end)
IsUnderWay first second (Flush u) t = u.next ≤ 2 ^ first

-- by the words each address from the range's beginning to where the change has come has its new
-- entry, and each other one its old, where E has the entries before the change
abbrev pub StandsSoFar : ℕ → Plan → Words → (ℕ → Entry) → Type 0
StandsSoFar second u t E = Stands second (from_of u) (reached_of second u) (rewrite_of u) t E

-- each block has the group that it should have by now, where L has the groups before the change
abbrev pub HasGroups : ℕ → ℕ → Plan → List ℕ → (ℕ → Option ℕ) → Type 0
HasGroups first second u firsts L =
    (i : ℕ) → i < 2 ^ first → group_at firsts i ≡ group_by_now second u L i

-- nothing is left to store: all addresses and blocks are as after the change
pub record IsOver (first second : ℕ) (u : Plan) : Type 0 where
  pub reached : reached_of second u ≡ end_of (first + second) u
  pub groups : (L : ℕ → Option ℕ) (i : ℕ) → i < 2 ^ first
      → group_by_now second u L i ≡ group_after u L i

-- the next store is of word w at place i of the first table, and unlinks no group
abbrev pub IsNextFirst : ℕ → ℕ → Plan → Words → ℕ → ℕ → Type 0
IsNextFirst first second (Range u) t i w = IsFirstStore second u.at u.end u.rewrite t i w
IsNextFirst first second (Link u) t i w = IsLinkStore second u i w
IsNextFirst first second (Unlink u) t i w =
    (u.unlinked ≡ false) × IsFirstStore second u.range.at u.range.end u.range.rewrite t i w
IsNextFirst first second (Flush u) t i w =
    IsFlushStore first u.next t.firsts i w × (group_at t.firsts i ≡ None)

-- the next store is of word w at place j of the second table
abbrev pub IsNextSecond : ℕ → Plan → Words → ℕ → ℕ → Type 0
IsNextSecond second (Range u) t j w =
    (g : ℕ) × (x : ℕ) × IsSecondStore second u.at u.end u.rewrite t g x j w
IsNextSecond second (Link u) t j w = IsFillStore second u t.firsts j w
IsNextSecond second (Unlink u) t j w =
    (u.unlinked ≡ false)
    × ((g : ℕ) × (x : ℕ) × IsSecondStore second u.range.at u.range.end u.range.rewrite t g x j w)
IsNextSecond second (Flush u) t j w = ⊥

-- the next store is of word w over the link of a block to group g
abbrev pub IsNextUnlink : ℕ → ℕ → Plan → Words → ℕ → ℕ → ℕ → Type 0
IsNextUnlink first second (Range u) t block g w = ⊥
IsNextUnlink first second (Link u) t block g w = ⊥
IsNextUnlink first second (Unlink u) t block g w =
    (u.unlinked ≡ false) × (block ≡ u.block)
    × Skips second u.range.rewrite t u.range.at u.range.end × IsUnlinkStore second t block g w
IsNextUnlink first second (Flush u) t block g w =
    IsFlushStore first u.next t.firsts block w × (group_at t.firsts block ≡ Some g)

-- the group that a block has, or that is being filled for it
abbrev pub group_held : Plan → List ℕ → ℕ → Option ℕ
group_held (Range u) firsts i = group_at firsts i
group_held (Link u) firsts i = if i == u.block then Some u.group else group_at firsts i
group_held (Unlink u) firsts i = group_at firsts i
group_held (Flush u) firsts i = group_at firsts i

-- the change fills this group for this block, and has stored nothing yet; none where it fills none
abbrev pub FillsFor : Plan → Option ℕ → ℕ → Type 0
FillsFor (Range u) group block = group ≡ None
FillsFor (Link u) group block = (group ≡ Some u.group) × (u.block ≡ block) × (u.next ≡ 0)
FillsFor (Unlink u) group block = group ≡ None
FillsFor (Flush u) group block = group ≡ None

-- each block has the group that it had
abbrev pub SameGroups : ℕ → (ℕ → Option ℕ) → (ℕ → Option ℕ) → Type 0
SameGroups first old new = (i : ℕ) → i < 2 ^ first → new i ≡ old i

-- one block gives its group up, and each other one has the group that it had
pub record GivesUp (first : ℕ) (old new : ℕ → Option ℕ) (block g : ℕ) : Type 0 where
  pub in_table : block < 2 ^ first
  pub had : old block ≡ Some g
  pub gone : new block ≡ None
  pub others : (i : ℕ) → i < 2 ^ first → i ≢ block → new i ≡ old i

-- how many places are left at most, of which each store takes one
abbrev pub places_left : ℕ → ℕ → Plan → ℕ
places_left first second (Range u) = u.end - u.at
places_left first second (Link u) = 2 ^ second + 1 - u.next
places_left first second (Unlink u) = (u.range.end - u.range.at) + (if u.unlinked then 0 else 1)
places_left first second (Flush u) = 2 ^ first - u.next

-- v is u, further on: a change of the same kind, whose own order of words never turns back
abbrev pub IsOnward : Plan → Plan → Type 0
IsOnward (Range u) (Range v) = IsFurther u v
IsOnward (Link u) (Link v) = (v ≡ record u { next = v.next }) × (u.next ≤ v.next)
IsOnward (Unlink u) (Unlink v) =
    IsFurther u.range v.range × (v.block ≡ u.block) × (u.unlinked ≡ true → v.unlinked ≡ true)
IsOnward (Flush u) (Flush v) = u.next ≤ v.next
IsOnward u v = ⊥

-- the change has passed place i of the first table, by its own order: it stores no word there again
abbrev pub HasPassedFirst : ℕ → Plan → ℕ → Type 0
HasPassedFirst second (Range u) i = i * 2 ^ second < u.at
HasPassedFirst second (Link u) i = 2 ^ second < u.next
HasPassedFirst second (Unlink u) i =
    ((i * 2 ^ second < u.range.at) × (i ≢ u.block)) ⊎ (u.unlinked ≡ true)
HasPassedFirst second (Flush u) i = i < u.next

-- place j of the second table is that of an address before `at`
abbrev pub IsSecondBefore : ℕ → ℕ → List ℕ → ℕ → Type 0
IsSecondBefore second at firsts j =
    (g : ℕ) × (x : ℕ) × (x < at)
    × IsLinkTo firsts (x / 2 ^ second) g × (j ≡ g * 2 ^ second + x % 2 ^ second)

-- the change has passed place j of the second table, by its own order: it stores no word there
-- again
abbrev pub HasPassedSecond : ℕ → Plan → List ℕ → ℕ → Type 0
HasPassedSecond second (Range u) firsts j = IsSecondBefore second u.at firsts j
HasPassedSecond second (Link u) firsts j = j < u.group * 2 ^ second + u.next
HasPassedSecond second (Unlink u) firsts j =
    IsSecondBefore second u.range.at firsts j ⊎ (u.unlinked ≡ true)
HasPassedSecond second (Flush u) firsts j = ⊥
