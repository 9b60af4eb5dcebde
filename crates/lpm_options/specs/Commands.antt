-- Meaning: the commands and options of `lpmtool`, as values that `clap` reads (clap 4, "Builder
-- reference": `Command`, `Arg`).
use Rattle.std.specs.Prelude.{[], ◌∷◌, true, Some, codes, decimal}
use Rattle.clap.specs.Words.{App, Rule, Text, new_app, new_rule, with_rule, with_subcommand}
use Rattle.lpm_limits.specs.declared.config.Range.{Range}
use Rattle.lpm_limits.specs.Limits.{range, rules_range, groups_range, threshold_range}
use Rattle.lpm_limits.specs.Limits.{reclaim_range, default_config}
use Rattle.clap.specs.declared.builder.value_parser.ValueParser.TheVariants as parsers
use Rattle.clap.specs.declared.builder.action.ArgAction.TheVariants as actions

-- a file, named by its place
abbrev pub file_rule : Text → Rule
file_rule id = record (new_rule id) { required = true }

-- an option with one number of the range, by default the number of this text
abbrev pub number_rule : Text → Range → Text → Rule
number_rule id range default = record (new_rule id) {
  long = Some id;
  value_names = 1;
  defaults = default ∷ [];
  parser = Some (parsers.Unsigned range.first range.last);
}

-- a flag, which takes no value
abbrev pub flag_rule : Text → Rule
flag_rule id = record (new_rule id) { long = Some id; action = Some actions.SetTrue }

-- as many workers as the program takes, which is less than a table takes
abbrev pub program_workers : Range
program_workers = range 0 1024

-- how often the workers of a storm can go over the addresses
abbrev pub storm_rounds : Range
storm_rounds = range 1 1000000

-- addresses, one word each, and at least one
abbrev pub addresses_rule : Rule
addresses_rule = record (file_rule (codes "ADDRESS")) { action = Some actions.Append }

abbrev pub rules_rule : Rule
rules_rule = number_rule (codes "rules") rules_range (decimal default_config.rules)

abbrev pub groups_rule : Rule
groups_rule = number_rule (codes "groups") groups_range (decimal default_config.groups)

abbrev pub workers_rule : Rule
workers_rule = number_rule (codes "workers") program_workers (decimal default_config.workers)

abbrev pub threshold_rule : Rule
threshold_rule = number_rule (codes "threshold") threshold_range (decimal default_config.threshold)

abbrev pub max_rule : Rule
max_rule = number_rule (codes "max") reclaim_range (decimal default_config.reclaim_max)

abbrev pub rounds_rule : Rule
rounds_rule = number_rule (codes "rounds") storm_rounds (codes "1")

abbrev pub stuck_rule : Rule
stuck_rule = flag_rule (codes "stuck")

-- the options that say how much the table holds
abbrev pub with_room : App → App
with_room app = with_rule (with_rule app rules_rule) groups_rule

-- the options of `lookup`, `apply`, `report` and `storm`: how much the table holds, who reads it, when
-- a change reclaims, and how much
abbrev pub with_limits : App → App
with_limits app =
    with_rule (with_rule (with_rule (with_room app) workers_rule) threshold_rule) max_rule

-- the command with one file more
abbrev pub with_file : App → Text → App
with_file app id = with_rule app (file_rule id)

-- the command of this name for these two files
abbrev pub with_files : Text → Text → Text → App
with_files name first second = with_file (with_file (new_app name) first) second

-- the command of this name for routes, updates and addresses, with the options of a table
abbrev pub with_three_files : Text → App
with_three_files name = with_limits
    (with_file (with_files name (codes "ROUTES") (codes "UPDATES")) (codes "ADDRESSES"))

abbrev pub lookup_app : App
lookup_app = with_limits (with_files (codes "lookup") (codes "ROUTES") (codes "ADDRESSES"))

abbrev pub explain_app : App
explain_app = with_room
    (with_rule (with_file (new_app (codes "explain")) (codes "ROUTES")) addresses_rule)

abbrev pub apply_app : App
apply_app = with_three_files (codes "apply")

abbrev pub report_app : App
report_app = with_limits (with_files (codes "report") (codes "ROUTES") (codes "UPDATES"))

abbrev pub storm_app : App
storm_app = with_rule (with_rule (with_three_files (codes "storm")) rounds_rule) stuck_rule

abbrev pub migrate_app : App
migrate_app = with_file (new_app (codes "migrate")) (codes "OLD")

-- the program before its commands: one of them is wanted, and its version can be asked for
abbrev pub program_app : App
program_app = let app = new_app (codes "lpmtool") in
    record app { top = record app.top { subcommand_required = true; has_version = true } }

-- the program with one command more
abbrev pub with_command : App → App → App
with_command app command = with_subcommand app command.top

unfoldable pub the_app : App
the_app = with_command
    (with_command
    (with_command
    (with_command (with_command (with_command program_app lookup_app) explain_app) apply_app)
    report_app)
    storm_app)
    migrate_app
