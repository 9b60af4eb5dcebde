use Rattle.std.proofs.Common.{◌≡◌, subst, sym, rules, codes, [], List, Option, Some}
use Rattle.std.specs.Prelude.{IfErr}
use Rattle.clap.specs.Words.{Row, Text, found_of, rows_of, subcommand_rows_of}
use Rattle.lpm_options.specs.Requests.{AsksForTwoStandardInputs, IsRefusalBy}
use Rattle.lpm_options.proofs.line_of.Goals as goal

pub returns-in_default-command_line-clause-refused : goal.returns-in_default-command_line-clause-refused
returns-in_default-command_line-clause-refused c = search rules

pub returns-then-has_two_standard_inputs-clause-refused : goal.returns-then-has_two_standard_inputs-clause-refused
returns-then-has_two_standard_inputs-clause-refused c =
    let asks : AsksForTwoStandardInputs (subcommand_rows_of c.args.matches.now) = (c.in-Some-command_line.line, search rules, search rules) in
    search rules

pub returns-clause-asked : goal.returns-clause-asked
returns-clause-asked c = search rules

pub returns-then-has_two_standard_inputs-clause-one_input : goal.returns-then-has_two_standard_inputs-clause-one_input
returns-then-has_two_standard_inputs-clause-one_input c = search rules

pub returns-then-eq-clause-refused : goal.returns-then-eq-clause-refused
returns-then-eq-clause-refused c =
    let asks : subcommand_rows_of c.args.matches.now ≡ Some (codes "explain", rows_of (found_of c.in-Some.found.now)) = search rules in
    subst (λ (asked : Option (Text × List Row)). IfErr c.explain_line.result (IsRefusalBy [] asked)) (sym asks) c.explain_line.ensures.refused
