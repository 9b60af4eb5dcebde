-- Meaning: what a change does to the entries of its range (DPDK Programmer's Guide, "LPM
-- Library": an added rule takes the entries of shorter rules, a deleted rule's entries go to the
-- longest rule that is shorter).
use Rattle.std.specs.Prelude.{ℕ, Bool, true, false, ◌≡◌, ◌≤◌, ◌<◌, ◌==◌, ◌&&◌, nat_le, if◌then◌else◌}
use Rattle.lpm_cells.specs.declared.entry.Entry.{Entry}
use Rattle.lpm_cells.specs.declared.entry.Entry.TheVariants.{Miss, Hop, Group}
use Rattle.lpm_cells.specs.Words.{IsLastWord, entry_in, word_of, Words, entry_at}
use Rattle.lpm_update.specs.declared.rewrite.Kind.{Kind}
use Rattle.lpm_update.specs.declared.rewrite.Kind.TheVariants.{Add, Delete, Flush}
use Rattle.lpm_update.specs.declared.rewrite.Rewrite.{Rewrite}
use Rattle.lpm_update.specs.declared.rewrite.WordRewrite.{WordRewrite}

-- a change by a rule of length n replaces this entry
abbrev pub replaces_by : Kind → ℕ → Entry → Bool
replaces_by Add n Miss = true
replaces_by Add n (Hop hop depth) = nat_le depth n
replaces_by Add n (Group group) = false
replaces_by Delete n Miss = false
replaces_by Delete n (Hop hop depth) = depth == n
replaces_by Delete n (Group group) = false
replaces_by Flush n Miss = false
replaces_by Flush n (Hop hop depth) = true
replaces_by Flush n (Group group) = true

abbrev pub replaces : Rewrite → Entry → Bool
replaces c e = replaces_by c.kind c.depth e

-- the change replaces the words from `least` to `greatest`, of those at which a lookup ends, and
-- stores `word` over them
pub record IsOnWords (width : ℕ) (c : Rewrite) (on : WordRewrite) : Type 0 where
  pub replaced : (w : ℕ) → IsLastWord width w
      → replaces c (entry_in w) ≡ (nat_le on.least w && nat_le w on.greatest)
  pub word : on.word ≡ word_of c.entry

-- what becomes of an entry in the range
abbrev pub rewritten_entry : Rewrite → Entry → Entry
rewritten_entry c e = if replaces c e then c.entry else e

-- each address from `from` to `at` has its new entry, each other one its old, where E has the
-- entries before the change
pub record Stands (second from at : ℕ) (c : Rewrite) (t : Words) (E : ℕ → Entry) : Type 0 where
  pub before : (a : ℕ) → a < from → entry_at second t a ≡ E a
  pub done : (a : ℕ) → from ≤ a → a < at → entry_at second t a ≡ rewritten_entry c (E a)
  pub todo : (a : ℕ) → at ≤ a → entry_at second t a ≡ E a

-- the addresses from `low` to `high` keep their entries
abbrev pub Skips : ℕ → Rewrite → Words → ℕ → ℕ → Type 0
Skips second c t low high = (a : ℕ) → low ≤ a → a < high → replaces c (entry_at second t a) ≡ false
