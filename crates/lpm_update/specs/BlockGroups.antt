-- Meaning: the words of a table whose groups each belong to one block (Gupta, Lin and McKeown,
-- INFOCOM 1998, section 3: a first entry of a longer prefix holds the index of its own block of
-- second entries).
use Rattle.std.specs.Prelude.{ℕ, ◌≡◌, ◌^◌, ◌<◌, List, slice_index, Option}
use Rattle.lpm_cells.specs.Words.{entry_in, group_in, Words, IsWords}
use Rattle.lpm_cells.specs.declared.entry.Entry.TheVariants.{Group}

-- the first word at the place is that of the group
abbrev pub IsLinkTo : List ℕ → ℕ → ℕ → Type 0
IsLinkTo firsts i g = entry_in (slice_index firsts i) ≡ Group g

-- words that a table may hold: each linked group belongs to one block
pub record IsTable (first second : ℕ) (t : Words) : Type 0 where
  pub words : IsWords first second t
  pub linked_once : (i j g : ℕ) → i < 2 ^ first → j < 2 ^ first
      → IsLinkTo t.firsts i g → IsLinkTo t.firsts j g → i ≡ j

-- the group that a block has
abbrev pub group_at : List ℕ → ℕ → Option ℕ
group_at firsts i = group_in (entry_in (slice_index firsts i))
