use Rattle.std.proofs.Common.{◌∙◌, sym}
use Rattle.clap.specs.Words.{Text, found_of}
use Rattle.clap.proofs.WalkLemmas.{first_value-rows}
use Rattle.lpm_options.proofs.Words.{are_values, are_absent}
use Rattle.lpm_options.proofs.requests.path_of.Goals as goal

pub returns-clause-file : goal.returns-clause-file
returns-clause-file c = are_values (λ (t : Text). t) _ _ (sym (first_value-rows (found_of c.args.found.now) c.args.id.now) ∙ sym c.get_str.ensures)

pub returns-clause-none : goal.returns-clause-none
returns-clause-none c = are_absent (λ (t : Text). t) _ _ (sym (first_value-rows (found_of c.args.found.now) c.args.id.now) ∙ sym c.get_str.ensures)
