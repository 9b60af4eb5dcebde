use Rattle.std.proofs.Common.{codes, rules}
use Rattle.clap.specs.Words.{rows_of, found_of}
use Rattle.lpm_options.proofs.Words.{no_limits, no_files}
use Rattle.lpm_options.proofs.requests.apply_line.Goals as goal

pub returns-in_err-routes : goal.returns-in_err-routes
returns-in_err-routes c =
    no_files (codes "apply") (rows_of (found_of c.args.found.now)) _ (search rules) (λ e. absurd cc) (λ e. absurd cc) (λ e. absurd cc) (λ e. absurd cc) (c.in_err-routes.ensures.none (search rules))

pub returns-in_err-config : goal.returns-in_err-config
returns-in_err-config c = no_limits (codes "apply") (rows_of (found_of c.args.found.now)) _ (search rules) (λ e. absurd cc) (λ e. absurd cc) (c.in_err-config.ensures.none (search rules))

pub returns : goal.returns
returns c = search rules
