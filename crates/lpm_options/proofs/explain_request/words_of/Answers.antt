use Rattle.std.proofs.Common.{◌∙◌, sym}
use Rattle.clap.specs.Words.{found_of}
use Rattle.clap.proofs.WalkLemmas.{raw_values-rows}
use Rattle.lpm_options.proofs.Words.{texts, are_values, are_absent}
use Rattle.lpm_options.proofs.explain_request.words_of.Goals as goal

pub returns-clause-words : goal.returns-clause-words
returns-clause-words c = are_values texts _ _ (sym (raw_values-rows (found_of c.args.found.now) _) ∙ sym c.get_strs.ensures)

pub returns-clause-none : goal.returns-clause-none
returns-clause-none c = are_absent texts _ _ (sym (raw_values-rows (found_of c.args.found.now) _) ∙ sym c.get_strs.ensures)
