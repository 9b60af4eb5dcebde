-- Meaning: the command `lookup` (this project's program: each file is read and then parsed, in
-- the order of the command line, before any route is loaded; the first fault wins).
use Rattle.std.specs.Prelude.{ℕ, ◌≡◌, ◌<◌, ◌⊎◌, ⊤, List, [], ◌∷◌, Option}
use Rattle.lpm_limits.specs.declared.config.Config.{Config}
use Rattle.lpm_limits.specs.declared.refusal.Refusal.TheVariants.{NoWorkers}
use Rattle.lpm_rules.specs.RuleMap.{RuleMap}
use Rattle.lpm_rules.specs.Longest.{AreLongestHops}
use Rattle.qsbr.specs.Counters.{Registry}
use Rattle.bulk.specs.declared.bulk_error.BulkError.{BulkError}
use Rattle.bulk.specs.declared.bulk_error.BulkError.TheVariants as bulks
use Rattle.fib_model.specs.State.{State}
use Rattle.route_text.specs.declared.routes.Route.{Route}
use Rattle.route_text.specs.Files.{AreRoutes, AreAddresses}
use Rattle.route_text.specs.Texts.{answer_lines}
use Rattle.lpm_files.specs.declared.failure.Failure.{Failure}
use Rattle.lpm_files.specs.declared.failure.Failure.TheVariants.{CannotWrite, Memory, Refused}
use Rattle.lpm_files.specs.Inputs.{Input, Reads, route_file, address_file}
use Rattle.lpm_files.specs.Inputs.{AreRead, EndsAtOne}
use Rattle.lpm_commands.specs.Load.{rules_of_routes, IsLoaded, EndsTable, HasTable}

-- the text has a line for each address with its longest match
abbrev pub IsAnswerText : RuleMap → List ℕ → List ℕ → Type 0
IsAnswerText R addrs text = (hops : List (Option ℕ)) × AreLongestHops 32 R addrs hops
    × (text ≡ answer_lines addrs hops)

-- there is a worker to answer the addresses, and the text has their answers
abbrev pub IsAnswered : Config → RuleMap → List ℕ → List ℕ → Type 0
IsAnswered c R addrs text = (0 < c.workers) × IsAnswerText R addrs text

-- the text answers the addresses of one file by the routes of the other, none of which is refused;
-- the files' bytes are known, or not
pub record IsLookupText (c : Config) (routes addresses : Option (List ℕ)) (text : List ℕ)
    : Type 0 where
  pub list : List Route
  pub addrs : List ℕ
  pub table : State Registry
  pub are_routes : Reads AreRoutes routes list
  pub are_addrs : Reads AreAddresses addresses addrs
  pub loaded : IsLoaded c list table
  pub answered : IsAnswered c (rules_of_routes list) addrs text

-- what addresses that were not answered end the run with
abbrev pub bulk_ending : BulkError → Failure
bulk_ending bulks.NoWorkers = Refused NoWorkers
bulk_ending bulks.Memory = Memory

-- answering addresses by so many workers ends so: there is none of them, or no memory
abbrev pub EndsAnswering : ℕ → Failure → Type 0
EndsAnswering workers (Refused refusal) = (refusal ≡ NoWorkers) × (workers ≡ 0)
EndsAnswering workers Memory = ⊤
EndsAnswering workers _ = ⊥

-- the files of a lookup, of these paths and bytes
abbrev pub lookup_files : List ℕ → List ℕ → (List ℕ → Option (List ℕ)) → List Input
lookup_files routes addresses bytes =
    route_file routes (bytes routes) ∷ address_file addresses (bytes addresses) ∷ []

-- a lookup of the files of these paths, whose bytes these are, ends so: by reading one of them, else
-- by loading the routes, else by answering; or by a write
abbrev pub EndsLookup : Config → List ℕ → List ℕ → (List ℕ → Option (List ℕ)) → Failure → Type 0
EndsLookup c routes addresses bytes failure =
    let files = lookup_files routes addresses bytes in
    EndsAtOne files failure
    ⊎ (AreRead files × EndsTable c routes (bytes routes) failure)
    ⊎ (AreRead files × HasTable c (bytes routes) × EndsAnswering c.workers failure)
    ⊎ (failure ≡ CannotWrite)
