-- Meaning: what the matches of a command line ask for (clap 4, "Builder reference":
-- `ArgMatches`), and why there are none.
use Rattle.std.specs.Prelude.{◌≡◌, ◌+◌, ◌⊎◌, ◌↔◌, ⊤, ℕ, Bool, IsTrue, List, [], ◌∷◌, ◌++◌, length, All}
use Rattle.std.specs.Prelude.{Option, Some, None, codes}
use Rattle.std.specs.List.{AllZip}
use Rattle.std.specs.Str.Parse.{IsNumeral, digits_value, without_leading_plus}
use Rattle.clap.specs.Words.{Row, Text, Kinds, IsAmong, all_of, first_of, one_of, kind_of}
use Rattle.route_text.specs.Fields.{IsAddress}
use Rattle.lpm_limits.specs.declared.config.Config.{Config}
use Rattle.lpm_limits.specs.Limits.{IsConfig, IsIn, default_config}
use Rattle.lpm_options.specs.Commands.{program_workers, storm_rounds}
use Rattle.lpm_options.specs.declared.CommandLine.{CommandLine}
use Rattle.lpm_options.specs.declared.CommandLine.TheVariants.{Lookup, Apply, Report, Storm}
use Rattle.lpm_options.specs.declared.CommandLine.TheVariants.{Explain, Migrate}
use Rattle.lpm_options.specs.declared.Refused.{Refused}
use Rattle.lpm_options.specs.declared.Refused.TheVariants.{Usage, Memory, NoCommand}
use Rattle.lpm_options.specs.declared.Refused.TheVariants.{BadAddress, TwoStandardInputs}

-- the file that the matches have under the id
abbrev pub HasFile : List Row → Text → Text → Type 0
HasFile rows id path = first_of id rows ≡ Some path

-- the number that the matches have under the id
abbrev pub HasNumber : List Row → Text → ℕ → Type 0
HasNumber rows id n = (text : Text) × (one_of id rows ≡ Some text)
    × IsNumeral 10 (without_leading_plus text) × (digits_value 10 (without_leading_plus text) ≡ n)

-- whether the words gave the flag: its value is `true` just where they did (clap 4, "Builder
-- reference": `ArgAction::SetTrue`)
abbrev pub HasFlag : List Row → Text → Bool → Type 0
HasFlag rows id is_given = IsTrue is_given ↔ (one_of id rows ≡ Some (codes "true"))

-- the matches have these three files
abbrev pub HaveFiles : List Row → Text → Text → Text → Type 0
HaveFiles rows routes updates addresses = HasFile rows (codes "ROUTES") routes
    × HasFile rows (codes "UPDATES") updates
    × HasFile rows (codes "ADDRESSES") addresses

-- each limit is the number of its option
pub record AreLimits (rows : List Row) (config : Config) : Type 0 where
  pub in_range : IsConfig config
  pub few_workers : IsIn program_workers config.workers
  pub rules : HasNumber rows (codes "rules") config.rules
  pub groups : HasNumber rows (codes "groups") config.groups
  pub workers : HasNumber rows (codes "workers") config.workers
  pub threshold : HasNumber rows (codes "threshold") config.threshold
  pub reclaim_max : HasNumber rows (codes "max") config.reclaim_max
  pub first_token : config.first_token ≡ default_config.first_token

-- the most rules and the groups are the numbers of their options, the other limits the defaults
pub record AreSizes (rows : List Row) (config : Config) : Type 0 where
  pub in_range : IsConfig config
  pub rules : HasNumber rows (codes "rules") config.rules
  pub groups : HasNumber rows (codes "groups") config.groups
  pub others : config ≡ record default_config { rules = config.rules; groups = config.groups }

-- the words that the matches have as addresses
abbrev pub HaveAddressWords : List Row → List Text → Type 0
HaveAddressWords rows words = all_of (codes "ADDRESS") rows ≡ Some words

-- the matches have these addresses, a word for each, which is spelled as in an address file
abbrev pub HaveAddresses : List Row → List ℕ → Type 0
HaveAddresses rows addrs =
    (words : List Text) × HaveAddressWords rows words × AllZip IsAddress words addrs

-- the text is no address
abbrev pub IsNoAddress : Text → Type 0
IsNoAddress text = (addr : ℕ) → IsAddress text addr → ⊥

-- of these words the one at this place, counted from 1, is the first that is no address
pub record IsFirstBadWord (words : List Text) (number : ℕ) (word : Text) : Type 0 where
  pub before : List Text
  pub after : List Text
  pub split : words ≡ before ++ word ∷ after
  pub place : number ≡ length before + 1
  pub good : All (λ text. (addr : ℕ) × IsAddress text addr) before
  pub bad : IsNoAddress word

-- the words are refused so: one is no address, or memory is wanted
abbrev pub IsBadWord : List Text → Refused → Type 0
IsBadWord words Memory = ⊤
IsBadWord words (BadAddress number word) = IsFirstBadWord words number word.now
IsBadWord words _ = ⊥

-- the limits of the command's table are in their ranges, and so are a storm's rounds
abbrev pub IsInRange : CommandLine → Type 0
IsInRange (Lookup routes addresses config) = IsConfig config
IsInRange (Explain routes addresses config) = IsConfig config
IsInRange (Apply routes updates addresses config) = IsConfig config
IsInRange (Report routes updates config) = IsConfig config
IsInRange (Storm routes updates addresses config rounds has_stuck_worker) =
    IsConfig config × IsIn storm_rounds rounds
IsInRange (Migrate old) = ⊤

-- the matches of the command of this name ask for this
abbrev pub Asks : Text → List Row → CommandLine → Type 0
Asks name rows (Lookup routes addresses config) = (name ≡ codes "lookup")
    × HasFile rows (codes "ROUTES") routes.now
    × HasFile rows (codes "ADDRESSES") addresses.now
    × AreLimits rows config
Asks name rows (Explain routes addresses config) = (name ≡ codes "explain")
    × HasFile rows (codes "ROUTES") routes.now
    × HaveAddresses rows addresses.items
    × AreSizes rows config
Asks name rows (Apply routes updates addresses config) = (name ≡ codes "apply")
    × HaveFiles rows routes.now updates.now addresses.now
    × AreLimits rows config
Asks name rows (Report routes updates config) = (name ≡ codes "report")
    × HasFile rows (codes "ROUTES") routes.now
    × HasFile rows (codes "UPDATES") updates.now
    × AreLimits rows config
Asks name rows (Storm routes updates addresses config rounds has_stuck_worker) =
    (name ≡ codes "storm")
    × HaveFiles rows routes.now updates.now addresses.now
    × AreLimits rows config
    × HasNumber rows (codes "rounds") rounds
    × IsIn storm_rounds rounds
    × HasFlag rows (codes "stuck") has_stuck_worker
Asks name rows (Migrate old) = (name ≡ codes "migrate")
    × HasFile rows (codes "OLD") old.now

-- what is made of the matches of the command of this name: what they ask for, in its ranges, or nothing
-- where they ask for nothing
abbrev pub IsLine : Text → List Row → Option CommandLine → Type 0
IsLine name rows (Some line) = Asks name rows line × IsInRange line
IsLine name rows None = (line : CommandLine) → Asks name rows line → ⊥

-- the matches have a command, which asks for this
abbrev pub IsAskedBy : Option (Text × List Row) → CommandLine → Type 0
IsAskedBy matches line = (name : Text)
    × ((rows : List Row) × (matches ≡ Some (name, rows)) × Asks name rows line)

-- the path stands for standard input
abbrev pub IsStandardInput : Text → Type 0
IsStandardInput path = path ≡ codes "-"

-- two of three files are standard input
abbrev pub AreTwoStandardInputs : Text → Text → Text → Type 0
AreTwoStandardInputs first second third = (IsStandardInput first × IsStandardInput second)
    ⊎ (IsStandardInput first × IsStandardInput third)
    ⊎ (IsStandardInput second × IsStandardInput third)

-- two of the command's files are standard input
abbrev pub HasTwoStandardInputs : CommandLine → Type 0
HasTwoStandardInputs (Lookup routes addresses config) =
    IsStandardInput routes.now × IsStandardInput addresses.now
HasTwoStandardInputs (Explain routes addresses config) = ⊥
HasTwoStandardInputs (Apply routes updates addresses config) =
    AreTwoStandardInputs routes.now updates.now addresses.now
HasTwoStandardInputs (Report routes updates config) =
    IsStandardInput routes.now × IsStandardInput updates.now
HasTwoStandardInputs (Storm routes updates addresses config rounds has_stuck_worker) =
    AreTwoStandardInputs routes.now updates.now addresses.now
HasTwoStandardInputs (Migrate old) = ⊥

-- what is asked for has two files that are standard input
abbrev pub AsksForTwoStandardInputs : Option (Text × List Row) → Type 0
AsksForTwoStandardInputs matches =
    (line : CommandLine) × IsAskedBy matches line × HasTwoStandardInputs line

-- nothing is asked for
abbrev pub AsksForNothing : Option (Text × List Row) → Type 0
AsksForNothing matches = (line : CommandLine) → IsAskedBy matches line → ⊥

-- `explain` is asked for, and this word, at this place among its addresses, is the first that is none
abbrev pub AsksForNoAddress : Option (Text × List Row) → ℕ → Text → Type 0
AsksForNoAddress matches number word = (rows : List Row)
    × ((words : List Text) × (matches ≡ Some (codes "explain", rows))
    × HaveAddressWords rows words × IsFirstBadWord words number word)

-- words with these faults and these matches are refused so
abbrev pub IsRefusalBy : Kinds → Option (Text × List Row) → Refused → Type 0
IsRefusalBy faults matches (Usage error) = IsAmong (kind_of error) faults
IsRefusalBy faults matches Memory = ⊤
IsRefusalBy faults matches NoCommand = (faults ≡ []) × AsksForNothing matches
IsRefusalBy faults matches (BadAddress number word) =
    (faults ≡ []) × AsksForNoAddress matches number word.now
IsRefusalBy faults matches TwoStandardInputs = (faults ≡ []) × AsksForTwoStandardInputs matches
