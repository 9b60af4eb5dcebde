-- Why a run has its status.
use Rattle.std.proofs.Common.{◌≡◌, ◌≢◌, inl, inr, ℕ, List, [], Option}
use Rattle.clap.specs.Words.{Text, subcommand_of, fault_of, kind_of}
use Rattle.lpm_options.specs.declared.Refused.{Refused}
use Rattle.lpm_options.specs.declared.Refused.TheVariants.{Usage}
use Rattle.lpm_options.specs.Commands.{the_app}
use Rattle.lpm_options.specs.declared.CommandLine.{CommandLine}
use Rattle.lpm_options.specs.Requests.{HasTwoStandardInputs, IsAskedBy, IsInRange, IsRefusalBy}
use Rattle.lpm_program.specs.Run.{AsksFor, IsRequest, EndsRefused, AsksForHelp, IsCause}

-- accepted words ask for their command
pub asks_for : (words : List Text) (line : CommandLine) → IsAskedBy (subcommand_of the_app words) line → fault_of the_app words ≡ [] → IsInRange line → ¬ HasTwoStandardInputs line → AsksFor words line
asks_for words line asked accepted in_range one_input = record { asked = asked; accepted = accepted; in_range = in_range; one_input = one_input }

-- a request that the parser answers is one of the words
pub asks_for_help : (words : List Text) (why : Refused) → IsRequest why → IsRefusalBy (fault_of the_app words) (subcommand_of the_app words) why → AsksForHelp words
asks_for_help words (Usage error) request by = (kind_of error, request, by)
asks_for_help words other request by = absurd request

-- refused words are a cause of the status that they end with
pub refused_cause : (words : List Text) (bytes : List ℕ → Option (List ℕ)) (why : Refused) (status : ℕ) → EndsRefused why status → IsRefusalBy (fault_of the_app words) (subcommand_of the_app words) why → status ≢ 0 → IsCause words bytes status
refused_cause words bytes why status (inl mistake) by nonzero = inl (mistake.0, (why, mistake.1, by))
refused_cause words bytes why status (inr (inl (inl zero, request))) by nonzero = absurd (nonzero zero)
refused_cause words bytes why status (inr (inl (inr three, request))) by nonzero = inr (inl (three, asks_for_help words why request by))
refused_cause words bytes why status (inr (inr memory)) by nonzero = inr (inr (inl memory.0))
