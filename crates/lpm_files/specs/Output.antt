-- Meaning: what a run writes (POSIX, "write": a call may take fewer bytes than it is given).
use Rattle.std.specs.Prelude.{ℕ, List, Option, take}
use Rattle.std.specs.Io.KnownBytes.{Appends}

-- what was written is a beginning of the text
abbrev pub Begins : Option (List ℕ) → Option (List ℕ) → List ℕ → Type 0
Begins old new text = (n : ℕ) × Appends old new (take n text)

-- such a text was written, and nothing else
abbrev pub Writes : (List ℕ → Type 0) → Option (List ℕ) → Option (List ℕ) → Type 0
Writes IsText old new = (text : List ℕ) × IsText text × Appends old new text

-- a beginning of such a text was written, and nothing else
abbrev pub WritesBeginning : (List ℕ → Type 0) → Option (List ℕ) → Option (List ℕ) → Type 0
WritesBeginning IsText old new = (text : List ℕ) × IsText text × Begins old new text
