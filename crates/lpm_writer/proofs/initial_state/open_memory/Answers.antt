use Rattle.std.proofs.Common.{rules}
use Rattle.lpm_writer.proofs.Initial.{settled}
use Rattle.lpm_writer.proofs.initial_state.open_memory.Goals as goal

pub returns-clause-settled : goal.returns-clause-settled
returns-clause-settled g c = settled g.row.FIRST g.row.SECOND c.args.config c.in_ok-control.ensures.in_range

pub returns-clause-domain : goal.returns-clause-domain
returns-clause-domain g c = search rules
