-- Meaning: entries and their words. An entry of either table is a miss, a next hop with the
-- length of its rule, or in the first table the group that goes on (Gupta, Lin and McKeown,
-- INFOCOM 1998, section 3; DPDK Programmer's Guide, "LPM Library": valid flag, extended flag,
-- depth, next hop). The bits are this project's.
use Rattle.std.specs.Prelude.{ℕ, ◌+◌, ◌*◌, ◌/◌, ◌%◌, ◌^◌, ◌≤◌, ◌<◌, ◌==◌, if◌then◌else◌, Option, Some, None, ◌≡◌, List, length, slice_index, slice_set}
use Rattle.lpm_cells.specs.declared.entry.Entry.{Entry}
use Rattle.lpm_cells.specs.declared.entry.Entry.TheVariants.{Miss, Hop, Group}

-- the ranges of an entry's parts, for addresses of `width` bits
abbrev pub IsEntry : ℕ → Entry → Type 0
IsEntry width Miss = Unit {0}
IsEntry width (Hop hop depth) = (hop < 2 ^ 24) × (depth ≤ width)
IsEntry width (Group group) = group < 2 ^ 24

-- the word of an entry: bits 0 to 23 a number, bit 24 valid, bit 25 extended, bits 26 to 31 a depth
abbrev pub word_of : Entry → ℕ
word_of Miss = 0
word_of (Hop hop depth) = hop + 2 ^ 24 + depth * 2 ^ 26
word_of (Group group) = group + 2 ^ 24 + 2 ^ 25

-- the entry that a word stands for, told by its bits 24 and 25; a word that is no entry's is read
-- as some entry too
unfoldable pub entry_in : ℕ → Entry
entry_in w =
    if w / 2 ^ 24 % 4 == 3 then Group (w % 2 ^ 24)
    else (if w / 2 ^ 24 % 4 == 1 then Hop (w % 2 ^ 24) (w / 2 ^ 26) else Miss)

-- the next hop of an entry, where it has one
abbrev pub hop_in : Entry → Option ℕ
hop_in Miss = None
hop_in (Hop hop depth) = Some hop
hop_in (Group group) = None

-- the group of an entry, where it is one
abbrev pub group_in : Entry → Option ℕ
group_in Miss = None
group_in (Hop hop depth) = None
group_in (Group group) = Some group

-- a lookup ends at the entry: it is no group
abbrev pub IsLast : Entry → Type 0
IsLast Miss = Unit {0}
IsLast (Hop hop depth) = Unit {0}
IsLast (Group group) = ⊥

-- the word is that of an entry, for addresses of `width` bits
abbrev pub IsWord : ℕ → ℕ → Type 0
IsWord width w = IsEntry width (entry_in w) × (word_of (entry_in w) ≡ w)

-- the word is that of an entry at which a lookup ends
abbrev pub IsLastWord : ℕ → ℕ → Type 0
IsLastWord width w = IsWord width w × IsLast (entry_in w)

-- The words of a table, and what they answer (Gupta, Lin and McKeown, INFOCOM 1998, section 3: a
-- lookup reads the first table at the address's first bits, and where it finds a group there, the
-- group's entry at the last bits).

-- the words of a table: those of the first table, and those of the groups one behind the other
pub record Words : Type 0 where
  pub firsts : List ℕ
  pub seconds : List ℕ

-- the words after the store of word x at place i of the first table
abbrev pub with_first : Words → ℕ → ℕ → Words
with_first t i x = record t { firsts = slice_set t.firsts i x }

-- the words after the store of word x at place j of the second table
abbrev pub with_second : Words → ℕ → ℕ → Words
with_second t j x = record t { seconds = slice_set t.seconds j x }

-- the second table has room for the words of the group
abbrev pub HasRoom : ℕ → List ℕ → ℕ → Type 0
HasRoom second seconds group = group * 2 ^ second + 2 ^ second ≤ length seconds

-- the entry may stand in the first table: a group has room for its words
abbrev pub IsFirst : ℕ → List ℕ → Entry → Type 0
IsFirst second seconds Miss = Unit {0}
IsFirst second seconds (Hop hop depth) = Unit {0}
IsFirst second seconds (Group group) = HasRoom second seconds group

-- the word may stand in the first table, for addresses of `width` bits
abbrev pub IsFirstWord : ℕ → ℕ → List ℕ → ℕ → Type 0
IsFirstWord width second seconds w = IsWord width w × IsFirst second seconds (entry_in w)

-- the words of a table of these widths: a first word for each block, and each word an entry's
pub record IsWords (first second : ℕ) (t : Words) : Type 0 where
  pub firsts_len : length t.firsts ≡ 2 ^ first
  pub first_words : (i : ℕ) → i < length t.firsts
      → IsFirstWord (first + second) second t.seconds (slice_index t.firsts i)
  pub second_words : (j : ℕ) → j < length t.seconds
      → IsLastWord (first + second) (slice_index t.seconds j)

-- the entry that a lookup ends at, where it read `e` in the first table and would go on to place
-- `r` of a group
abbrev pub last_entry : ℕ → List ℕ → ℕ → Entry → Entry
last_entry second seconds r Miss = Miss
last_entry second seconds r (Hop hop depth) = Hop hop depth
last_entry second seconds r (Group group) = entry_in (slice_index seconds (group * 2 ^ second + r))

-- the entry that the words have for an address
abbrev pub entry_at : ℕ → Words → ℕ → Entry
entry_at second t a =
    last_entry second t.seconds (a % 2 ^ second) (entry_in (slice_index t.firsts (a / 2 ^ second)))
