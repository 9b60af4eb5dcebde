-- Meaning: a whole run (this project's program: help, the version, or the output of the command that
-- the words ask for).
use Rattle.std.specs.Prelude.{ℕ, ◌≡◌, ⊤, List, [], Option, ◌⊎◌}
use Rattle.clap.specs.Words.{Text, IsAmong, subcommand_of, fault_of, kind_of}
use Rattle.clap.specs.declared.error.kind.ErrorKind.{ErrorKind}
use Rattle.clap.specs.declared.error.kind.ErrorKind.TheVariants.{DisplayHelp, DisplayVersion}
use Rattle.lpm_options.specs.declared.CommandLine.{CommandLine}
use Rattle.lpm_options.specs.declared.CommandLine.TheVariants as commands
use Rattle.lpm_options.specs.declared.Refused.{Refused}
use Rattle.lpm_options.specs.declared.Refused.TheVariants as refused
use Rattle.lpm_options.specs.Commands.{the_app}
use Rattle.lpm_options.specs.Requests.{HasTwoStandardInputs, IsAskedBy, IsInRange, IsRefusalBy}
use Rattle.lpm_files.specs.declared.failure.Failure.{Failure}
use Rattle.lpm_files.specs.Output.{Writes, WritesBeginning}
use Rattle.lpm_commands.specs.Lookup.{IsLookupText, EndsLookup}
use Rattle.lpm_commands.specs.Explain.{IsExplainText, EndsExplain}
use Rattle.lpm_commands.specs.Apply.{IsApplyText, EndsApply}
use Rattle.lpm_commands.specs.Report.{IsReportText, EndsReport}
use Rattle.lpm_commands.specs.Storm.{IsStormText, EndsStormRun}
use Rattle.lpm_commands.specs.Migrate.{IsMigrateText, EndsMigrate}
use Rattle.lpm_files.specs.Status.{status_of}

-- the text is the command's output, for files of these bytes
abbrev pub IsOutput : CommandLine → (List ℕ → Option (List ℕ)) → List ℕ → Type 0
IsOutput (commands.Lookup routes addresses config) bytes =
    IsLookupText config (bytes routes.now) (bytes addresses.now)
IsOutput (commands.Explain routes addresses config) bytes =
    IsExplainText config (bytes routes.now) addresses.items
IsOutput (commands.Apply routes updates addresses config) bytes =
    IsApplyText config (bytes routes.now) (bytes updates.now) (bytes addresses.now)
IsOutput (commands.Report routes updates config) bytes =
    IsReportText config (bytes routes.now) (bytes updates.now)
IsOutput (commands.Storm routes updates addresses config rounds has_stuck_worker) bytes =
    IsStormText config rounds has_stuck_worker (bytes routes.now) (bytes updates.now)
    (bytes addresses.now)
IsOutput (commands.Migrate old) bytes = IsMigrateText (bytes old.now)

-- the command ends in this failure, for files of these bytes
abbrev pub EndsCommand : CommandLine → (List ℕ → Option (List ℕ)) → Failure → Type 0
EndsCommand (commands.Lookup routes addresses config) bytes failure =
    EndsLookup config routes.now addresses.now bytes failure
EndsCommand (commands.Explain routes addresses config) bytes failure =
    EndsExplain config routes.now bytes failure
EndsCommand (commands.Apply routes updates addresses config) bytes failure =
    EndsApply config routes.now updates.now addresses.now bytes failure
EndsCommand (commands.Report routes updates config) bytes failure =
    EndsReport config routes.now updates.now bytes failure
EndsCommand (commands.Storm routes updates addresses config rounds has_stuck_worker) bytes failure =
    EndsStormRun config rounds has_stuck_worker routes.now updates.now addresses.now bytes failure
EndsCommand (commands.Migrate old) bytes failure = EndsMigrate old.now bytes failure

-- help or the version is to be shown
abbrev pub IsShown : ErrorKind → Type 0
IsShown kind = (kind ≡ DisplayHelp) ⊎ (kind ≡ DisplayVersion)

-- the words ask for help or for the version
abbrev pub AsksForHelp : List Text → Type 0
AsksForHelp words = (kind : ErrorKind) × IsShown kind × IsAmong kind (fault_of the_app words)

-- the words ask for this command, and nothing is wrong with them
pub record AsksFor (words : List Text) (line : CommandLine) : Type 0 where
  pub asked : IsAskedBy (subcommand_of the_app words) line
  pub accepted : fault_of the_app words ≡ []
  pub in_range : IsInRange line
  pub one_input : ¬ HasTwoStandardInputs line

-- the words ask for help, or for a command whose output was written
abbrev pub IsDone : List Text → (List ℕ → Option (List ℕ)) → Option (List ℕ) → Option (List ℕ)
    → Type 0
IsDone words bytes old new = AsksForHelp words
    ⊎ ((line : CommandLine) × (AsksFor words line × Writes (IsOutput line bytes) old new))

-- the words ask for help, or for a command of whose output a beginning was written
abbrev pub IsBegun : List Text → (List ℕ → Option (List ℕ)) → Option (List ℕ) → Option (List ℕ)
    → Type 0
IsBegun words bytes old new = AsksForHelp words
    ⊎ ((line : CommandLine) × (AsksFor words line × WritesBeginning (IsOutput line bytes) old new))

-- words that are refused so are told what is wrong with them: they don't ask for help, and memory
-- isn't what was wanted
abbrev pub IsMistake : Refused → Type 0
IsMistake (refused.Usage error) = ¬ IsShown (kind_of error)
IsMistake refused.Memory = ⊥
IsMistake other = ⊤

-- the words are refused
abbrev pub AreRefused : List Text → Type 0
AreRefused words = (why : Refused) × IsMistake why
    × IsRefusalBy (fault_of the_app words) (subcommand_of the_app words) why

-- why a run that isn't done has this status: the words are refused; help can't be written; memory is
-- wanted; or a command ends in a failure of this status
abbrev pub IsCause : List Text → (List ℕ → Option (List ℕ)) → ℕ → Type 0
IsCause words bytes status = ((status ≡ 2) × AreRefused words)
    ⊎ ((status ≡ 3) × AsksForHelp words)
    ⊎ (status ≡ 5)
    ⊎ ((line : CommandLine) × ((failure : Failure) × AsksFor words line
    × EndsCommand line bytes failure × (status ≡ status_of failure)))

-- the words ask for help or for the version, which the parser answers by this error
abbrev pub IsRequest : Refused → Type 0
IsRequest (refused.Usage error) = IsShown (kind_of error)
IsRequest other = ⊥

-- a run whose words are refused so ends with this status
abbrev pub EndsRefused : Refused → ℕ → Type 0
EndsRefused why status = ((status ≡ 2) × IsMistake why)
    ⊎ (((status ≡ 0) ⊎ (status ≡ 3)) × IsRequest why)
    ⊎ ((status ≡ 5) × (why ≡ refused.Memory))
