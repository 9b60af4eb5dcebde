use Rattle.std.proofs.Common.{rules, ◌≡◌, ◌∙◌}
use Rattle.lpm_trace.proofs.Versions.{token_is}
use Rattle.shared_fib.specs.RunningTable.{WriterState, state_of_writer, initial_state, steps_of}
use Rattle.shared_fib.proofs.writer.Writer.token.Goals as goal

pub returns-clause-value : goal.returns-clause-value
returns-clause-value g c =
    let w : WriterState = c.args.self.now in
    let was : c.stored_token.result ≡ (state_of_writer w).token = search rules in
    was ∙ token_is (initial_state w.identity) (steps_of w)
