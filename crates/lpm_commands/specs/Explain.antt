-- Meaning: the command `explain` (this project's program: the words of the command line are checked
-- before the file is read).
use Rattle.std.specs.Prelude.{ℕ, ◌≡◌, ◌+◌, ◌*◌, ◌/◌, ◌%◌, ◌^◌, ◌<◌, List, [], ◌∷◌, length, slice_index, Option, Some, None, ◌⊎◌, ◌++◌}
use Rattle.std.specs.List.{All, AllPairs, Contains}
use Rattle.std.specs.FinMap.{get}
use Rattle.lpm_bits.specs.Network.{Network, Covers}
use Rattle.lpm_cells.specs.declared.entry.Entry.{Entry}
use Rattle.lpm_cells.specs.Words.{entry_in, Words}
use Rattle.lpm_rules.specs.RuleMap.{RuleMap}
use Rattle.lpm_rules.specs.Longest.{IsLongest, IsLongestHop}
use Rattle.lpm_rules.specs.declared.Rule.{Rule}
use Rattle.route_text.specs.declared.explanations.Reading.{Reading}
use Rattle.route_text.specs.declared.explanations.SecondWord.{SecondWord}
use Rattle.lpm_limits.specs.declared.config.Config.{Config}
use Rattle.lpm_update.specs.Represents.{Represents}
use Rattle.qsbr.specs.Counters.{Registry}
use Rattle.fib_model.specs.State.{State}
use Rattle.route_text.specs.declared.routes.Route.{Route}
use Rattle.route_text.specs.Files.{AreRoutes}
use Rattle.route_text.specs.Explanation.{explanation_lines}
use Rattle.lpm_files.specs.declared.failure.Failure.{Failure}
use Rattle.lpm_files.specs.declared.failure.Failure.TheVariants.{CannotWrite}
use Rattle.lpm_files.specs.Inputs.{Input, Reads, AreRead, EndsAtOne, route_file}
use Rattle.lpm_commands.specs.Load.{rules_of_routes, IsLoaded, EndsTable}
use Rattle.lpm_cells.specs.declared.entry.Entry.TheVariants as entries

-- The rules that cover an address (Gupta, Lin and McKeown, INFOCOM 1998, section 1: the longest of
-- the prefixes that match answers), and the words of a table that its lookup reads (section 3: the
-- first table at the address's first bits, and where it finds a group there, the group's entry at
-- the last bits).

-- the rules that cover the address: all of them, nothing else, and the longest first
pub record AreCovering {first second : ℕ} (width : ℕ) (R : RuleMap) (a : ℕ)
    (rs : List (Rule first second)) : Type 0 where
  pub rules : All (λ (r : Rule first second). get R r.prefix ≡ Some r.hop) rs
  pub cover : All (λ (r : Rule first second). Covers width r.prefix a) rs
  pub complete : (p : Network) (hop : ℕ) → get R p ≡ Some hop → Covers width p a
      → Contains rs (record { prefix = p; hop = hop })
  pub longest_first : AllPairs (λ (r s : Rule first second). s.prefix.len < r.prefix.len) rs

-- the first of these rules is the longest match of the address; with none, no rule covers it
abbrev pub IsAnsweredByFirst : {first second : ℕ} → ℕ → RuleMap → ℕ → List (Rule first second) → Type 0
IsAnsweredByFirst width R a [] = IsLongestHop width R a None
IsAnsweredByFirst width R a (r ∷ covers) =
    (get R r.prefix ≡ Some r.hop) × IsLongest width R a r.prefix

-- the word that is read after the entry of the first one, at this place of its group; none where the
-- first one names no group
abbrev pub second_word : ℕ → List ℕ → ℕ → Entry → Option SecondWord
second_word second seconds place entries.Miss = None
second_word second seconds place (entries.Hop hop depth) = None
second_word second seconds place (entries.Group group) =
    let index = group * 2 ^ second + place in
    Some (record { group = group; index = index; word = slice_index seconds index })

-- the words that a lookup of the address reads
abbrev pub reading_of : ℕ → Words → ℕ → Reading
reading_of second t a =
    let index = a / 2 ^ second in
    let word = slice_index t.firsts index in
    record {
      index = index;
      word = word;
      second = second_word second t.seconds (a % 2 ^ second) (entry_in word);
    }

-- the text explains the answer to the address by these rules, in a table of these words
pub record IsExplanation (R : RuleMap) (t : Words) (a : ℕ) (text : List ℕ) : Type 0 where
  pub rules : List (Rule 24 8)
  pub covering : AreCovering 32 R a rules
  pub answered : IsAnsweredByFirst 32 R a rules
  pub written : text ≡ explanation_lines a rules (reading_of 8 t a)

-- the text explains the answers to the addresses, one after another
abbrev pub AreExplanations : RuleMap → Words → List ℕ → List ℕ → Type 0
AreExplanations R t [] text = text ≡ []
AreExplanations R t (a ∷ addrs) text = (here more : List ℕ)
    × IsExplanation R t a here × AreExplanations R t addrs more × (text ≡ here ++ more)

-- the words of a table of these rules with so many groups, and the text that explains the answers to the
-- addresses there
abbrev pub ExplainsBy : ℕ → RuleMap → List ℕ → List ℕ → Type 0
ExplainsBy groups R addrs text =
    (words : Words) × Represents 24 8 R words × (length words.seconds ≡ groups * 2 ^ 8)
    × AreExplanations R words addrs text

-- the text explains the answers to the addresses by a table of the routes, none of which is refused;
-- the file's bytes are known, or not
pub record IsExplainText (c : Config) (routes : Option (List ℕ)) (addrs text : List ℕ) : Type 0 where
  pub list : List Route
  pub table : State Registry
  pub are_routes : Reads AreRoutes routes list
  pub loaded : IsLoaded c list table
  pub explained : ExplainsBy c.groups (rules_of_routes list) addrs text

-- the file that is read, of this path and these bytes
abbrev pub explain_files : List ℕ → (List ℕ → Option (List ℕ)) → List Input
explain_files routes bytes = route_file routes (bytes routes) ∷ []

-- an explanation by the file of this path, whose bytes these are, ends so: by reading it, else by
-- loading the routes or for want of memory; or by a write
abbrev pub EndsExplain : Config → List ℕ → (List ℕ → Option (List ℕ)) → Failure → Type 0
EndsExplain c routes bytes failure =
    let files = explain_files routes bytes in
    EndsAtOne files failure
    ⊎ (AreRead files × EndsTable c routes (bytes routes) failure)
    ⊎ (failure ≡ CannotWrite)
