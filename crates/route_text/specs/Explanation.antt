-- Meaning: the lines that explain an answer: the rules that cover the address, and the words that a
-- lookup reads (DPDK Programmer's Guide, "LPM Library": a read of tbl24, and where that entry is
-- extended one of tbl8; the lines are this project's).
use Rattle.std.specs.Prelude.{ℕ, ◌+◌, ◌/◌, ◌%◌, ◌^◌, nat_lt, if◌then◌else◌, List, [], ◌∷◌, ◌++◌}
use Rattle.std.specs.Prelude.{Option, Some, None, codes, decimal}
use Rattle.lpm_rules.specs.declared.Rule.{Rule}
use Rattle.route_text.specs.declared.explanations.Reading.{Reading}
use Rattle.route_text.specs.declared.explanations.SecondWord.{SecondWord}
use Rattle.lpm_bits.specs.Texts.{prefix_text}
use Rattle.route_text.specs.Texts.{address_text}

-- a digit of a number in base 16
abbrev pub hex_digit : ℕ → ℕ
hex_digit n = if nat_lt n 10 then 48 + n else 87 + n

-- a byte as two digits
abbrev pub hex_byte : ℕ → List ℕ
hex_byte byte = hex_digit (byte / 16) ∷ hex_digit (byte % 16) ∷ []

-- a word of 32 bits as `0x` and eight digits
abbrev pub word_text : ℕ → List ℕ
word_text word = codes "0x" ++ hex_byte (word / 2 ^ 24) ++ hex_byte (word / 2 ^ 16 % 256)
    ++ hex_byte (word / 2 ^ 8 % 256) ++ hex_byte (word % 256)

-- the name of a table, a place in it, and the word there
abbrev pub word_line : List ℕ → ℕ → ℕ → List ℕ
word_line table index word = table ++ decimal index ++ codes " " ++ word_text word ++ 10 ∷ []

-- the group that the first word names and the word of that group, where it names one
abbrev pub second_lines : Option SecondWord → List ℕ
second_lines None = []
second_lines (Some second) = codes "group " ++ decimal second.group ++ 10 ∷ []
    ++ word_line (codes "tbl8 ") second.index second.word

-- the words that a lookup reads
abbrev pub reading_lines : Reading → List ℕ
reading_lines reading =
    word_line (codes "tbl24 ") reading.index reading.word ++ second_lines reading.second

abbrev pub cover_line : Rule 24 8 → List ℕ
cover_line rule = codes "cover " ++ prefix_text rule.prefix ++ codes " " ++ decimal rule.hop ++ 10 ∷ []

-- a line for each rule
unfoldable pub cover_lines : List (Rule 24 8) → List ℕ
cover_lines [] = []
cover_lines (rule ∷ more) = cover_line rule ++ cover_lines more

-- the next hop and the prefix of the first rule, and a line for each other one; `-` for no rule
abbrev pub rule_lines : List (Rule 24 8) → List ℕ
rule_lines [] = codes "hop -\nrule -\n"
rule_lines (rule ∷ covers) = codes "hop " ++ decimal rule.hop ++ codes "\nrule "
    ++ prefix_text rule.prefix ++ 10 ∷ [] ++ cover_lines covers

-- the address, the rules that cover it, the longest first, and the words that its lookup reads
abbrev pub explanation_lines : ℕ → List (Rule 24 8) → Reading → List ℕ
explanation_lines addr rules reading =
    codes "address " ++ address_text addr ++ 10 ∷ [] ++ rule_lines rules ++ reading_lines reading
