-- This layer's own: how each kind of change orders its stores: a flush, a group that is filled and
-- linked, a range of addresses, and a group that is unlinked (DPDK Programmer's Guide, "LPM
-- Library"; the order is this project's).
use Rattle.std.specs.Prelude.{ℕ, ◌≡◌, ◌≢◌, ◌≤◌, ◌<◌, ◌^◌, List, slice_index, Bool, ◌+◌, ◌*◌, nat_le, nat_lt, ◌&&◌, if◌then◌else◌, ◌-◌, ◌/◌, ◌%◌, true}
use Rattle.lpm_cells.specs.Words.{entry_in, word_of, IsEntry, IsLast, Words, HasRoom, with_first, with_second}
use Rattle.lpm_cells.specs.declared.entry.Entry.TheVariants.{Miss, Group}
use Rattle.lpm_update.specs.declared.rewrite.Kind.TheVariants.{Flush}
use Rattle.lpm_update.specs.declared.rewrite.Rewrite.{Rewrite}
use Rattle.lpm_cells.specs.declared.entry.Entry.{Entry}
use Rattle.lpm_update.specs.BlockGroups.{IsLinkTo}
use Rattle.lpm_update.specs.Rewrite.{rewritten_entry, replaces, Skips, Stands}
use Rattle.lpm_update.specs.declared.link_group.LinkGroup.{LinkGroup}
use Rattle.lpm_bits.specs.Network.{Network}
use Rattle.lpm_update.specs.declared.Did.{Did}
use Rattle.lpm_update.specs.declared.Did.TheVariants.{First, Second, Unlinked, Done}
use Rattle.lpm_update.specs.declared.rewrite_range.RewriteRange.{RewriteRange}

-- A flush stores a miss in each first word that isn't one, upwards (DPDK Programmer's Guide, "LPM
-- Library": all rules are deleted).

-- every entry becomes a miss
abbrev pub rewrite_to_miss : Rewrite
rewrite_to_miss = record { kind = Flush; depth = 0; entry = Miss }

-- the first words from place `low` to `high` are misses
abbrev pub AllMiss : List ℕ → ℕ → ℕ → Type 0
AllMiss firsts low high = (k : ℕ) → low ≤ k → k < high → entry_in (slice_index firsts k) ≡ Miss

-- the next store from place `next` on is of a miss at place i of the first table
pub record IsFlushStore (first next : ℕ) (firsts : List ℕ) (i w : ℕ) : Type 0 where
  pub low : next ≤ i
  pub high : i < 2 ^ first
  pub full : entry_in (slice_index firsts i) ≢ Miss
  pub word : w ≡ word_of Miss
  pub skipped : AllMiss firsts next i

-- A free group's words are stored before it is linked (DPDK Programmer's Guide, "LPM Library",
-- "Addition": a new group's entries are set to those of the rule that covered the block, then the
-- rule's own, and the first entry is made to point at it last).

-- the address lies in the range
abbrev pub in_range : ℕ → ℕ → ℕ → Bool
in_range from end a = nat_le from a && nat_lt a end

-- the entry of an address after the change, where `e` is its entry before
abbrev pub final_entry : ℕ → ℕ → Rewrite → ℕ → Entry → Entry
final_entry from end c a e = if in_range from end a then rewritten_entry c e else e

-- how far the change has come for readers of the words: the link is the one store that they see
abbrev pub reach_of_link : ℕ → LinkGroup → ℕ
reach_of_link second u = if nat_le u.next (2 ^ second) then u.from else u.end

-- the entry that place r of the group gets, where the block had entry `old`
abbrev pub filled_entry : ℕ → LinkGroup → ℕ → Entry → Entry
filled_entry second u r old = final_entry u.from u.end u.rewrite (u.block * 2 ^ second + r) old

-- a change of one block that has no group, by a group that no block has
pub record IsLinking (first second : ℕ) (u : LinkGroup) (t : Words) : Type 0 where
  pub block : u.block < 2 ^ first
  pub low : u.block * 2 ^ second ≤ u.from
  pub range : u.from ≤ u.end
  pub high : u.end ≤ u.block * 2 ^ second + 2 ^ second
  pub entry : IsEntry (first + second) u.rewrite.entry
  pub last : IsLast u.rewrite.entry
  pub group : u.group < 2 ^ 24
  pub room : HasRoom second t.seconds u.group
  pub free : u.next ≤ 2 ^ second → (i : ℕ) → IsLinkTo t.firsts i u.group → ⊥
  pub old : u.next ≤ 2 ^ second → IsLast (entry_in (slice_index t.firsts u.block))
  pub filled : u.next ≤ 2 ^ second → (r : ℕ) → r < u.next
      → entry_in (slice_index t.seconds (u.group * 2 ^ second + r))
      ≡ filled_entry second u r (entry_in (slice_index t.firsts u.block))

-- the next store is the next of the group's words, upwards
abbrev pub IsFillStore : ℕ → LinkGroup → List ℕ → ℕ → ℕ → Type 0
IsFillStore second u firsts j w =
    (u.next < 2 ^ second) × (j ≡ u.group * 2 ^ second + u.next)
    × (w ≡ word_of (filled_entry second u u.next (entry_in (slice_index firsts u.block))))

-- all words of the group are stored, and the next store is the link
abbrev pub IsLinkStore : ℕ → LinkGroup → ℕ → ℕ → Type 0
IsLinkStore second u i w = (u.next ≡ 2 ^ second) × (i ≡ u.block) × (w ≡ word_of (Group u.group))

-- A range of addresses whose entries are rewritten, upwards (DPDK Programmer's Guide, "LPM
-- Library", "Addition": the entries of the rule's range; the order is this project's).

-- the bound x cuts no block that has no group
abbrev pub IsWhole : ℕ → List ℕ → ℕ → Type 0
IsWhole second firsts x =
    (i : ℕ) → IsLast (entry_in (slice_index firsts i)) → i * 2 ^ second < x
    → i * 2 ^ second + 2 ^ second ≤ x

-- the range from `from` to `end`, rewritten up to `at`
pub record IsRewriting (first second from at end : ℕ) (c : Rewrite) (firsts : List ℕ) : Type 0 where
  pub started : from ≤ at
  pub within : at ≤ end
  pub fits : end ≤ 2 ^ (first + second)
  pub entry : IsEntry (first + second) c.entry
  pub last : IsLast c.entry
  pub whole_at : IsWhole second firsts at
  pub whole_end : IsWhole second firsts end

-- the next store from `at` on is of word w at place i of the first table
pub record IsFirstStore (second at end : ℕ) (c : Rewrite) (t : Words) (i w : ℕ) : Type 0 where
  pub low : at ≤ i * 2 ^ second
  pub high : i * 2 ^ second < end
  pub replaced : replaces c (entry_in (slice_index t.firsts i)) ≡ true
  pub last : IsLast (entry_in (slice_index t.firsts i))
  pub word : w ≡ word_of c.entry
  pub skipped : Skips second c t at (i * 2 ^ second)

-- the next store from `at` on is of word w at place j of the second table, that of address x in
-- group g
pub record IsSecondStore (second at end : ℕ) (c : Rewrite) (t : Words) (g x j w : ℕ) : Type 0 where
  pub low : at ≤ x
  pub high : x < end
  pub group : IsLinkTo t.firsts (x / 2 ^ second) g
  pub place : j ≡ g * 2 ^ second + x % 2 ^ second
  pub replaced : replaces c (entry_in (slice_index t.seconds j)) ≡ true
  pub word : w ≡ word_of c.entry
  pub skipped : Skips second c t at x

-- v is u, further on
pub record IsFurther (u v : RewriteRange) : Type 0 where
  pub from : v.from ≡ u.from
  pub end : v.end ≡ u.end
  pub rewrite : v.rewrite ≡ u.rewrite
  pub at : u.at ≤ v.at

-- the range of a prefix, of which nothing is rewritten yet; the change may begin on words in which
-- the prefix is no longer than FIRST bits, or its block has a group
pub record IsRangeOf (first second : ℕ) (p : Network) (u : RewriteRange) : Type 0 where
  pub from : u.from ≡ p.bits
  pub at : u.at ≡ p.bits
  pub end : u.end ≡ p.bits + 2 ^ (first + second - p.len)
  pub short : p.len ≤ first → (firsts : List ℕ)
      → IsRewriting first second u.from u.at u.end u.rewrite firsts
  pub deep : first < p.len → (firsts : List ℕ) (g : ℕ) → IsLinkTo firsts (p.bits / 2 ^ second) g
      → IsRewriting first second u.from u.at u.end u.rewrite firsts

-- what a look at the next place of the range stored, or that the entries there stay
abbrev pub VisitStored : ℕ → ℕ → Did → RewriteRange → Words → RewriteRange → Words → Type 0
VisitStored first second (First i) u t v z =
    IsFirstStore second u.at u.end u.rewrite t i (slice_index z.firsts i)
    × (z ≡ with_first t i (slice_index z.firsts i)) × (v.at ≡ i * 2 ^ second + 2 ^ second)
VisitStored first second (Second j) u t v z =
    (g : ℕ) × (x : ℕ) × IsSecondStore second u.at u.end u.rewrite t g x j (slice_index z.seconds j)
    × (z ≡ with_second t j (slice_index z.seconds j)) × (v.at ≡ x + 1)
VisitStored first second (Unlinked b g) u t v z = ⊥
VisitStored first second Done u t v z =
    IsRewriting first second v.from v.at v.end v.rewrite t.firsts
    × Skips second u.rewrite t u.at v.at

-- a look at the next place of the range, after which the range is v and the words are z
pub record Visits (first second : ℕ) (u : RewriteRange) (t : Words) (did : Did) (v : RewriteRange)
    (z : Words) : Type 0 where
  pub further : IsFurther u v
  pub more : u.at < v.at
  pub stored : VisitStored first second did u t v z

-- A group is unlinked when its block has no rule longer than FIRST bits any more: its words are
-- then all equal, and the first entry takes their value (DPDK Programmer's Guide, "LPM Library",
-- "Deletion": a group whose entries are all alike is merged back into the first table).

-- the change, of entries that were E, leaves all addresses of the block with one entry
abbrev pub IsUniform : ℕ → RewriteRange → (ℕ → Entry) → ℕ → Type 0
IsUniform second u E block =
    (x : Entry)
    × ((a : ℕ) → a / 2 ^ second ≡ block → final_entry u.from u.end u.rewrite a (E a) ≡ x)

-- a range of one block, which has a group, and whose rewriting leaves the block with one entry
pub record IsUnlinking (first second : ℕ) (u : RewriteRange) (block : ℕ) (t : Words) : Type 0 where
  pub rewriting : IsRewriting first second u.from u.at u.end u.rewrite t.firsts
  pub in_table : block < 2 ^ first
  pub low : block * 2 ^ second ≤ u.from
  pub high : u.end ≤ block * 2 ^ second + 2 ^ second
  pub group : (g : ℕ) × IsLinkTo t.firsts block g
  pub uniform : (E : ℕ → Entry)
      × Stands second u.from u.at u.rewrite t E × IsUniform second u E block

-- the store that unlinks group g from its block: of the word that all words of the group are
pub record IsUnlinkStore (second : ℕ) (t : Words) (block g w : ℕ) : Type 0 where
  pub group : IsLinkTo t.firsts block g
  pub word : (r : ℕ) → r < 2 ^ second → slice_index t.seconds (g * 2 ^ second + r) ≡ w
