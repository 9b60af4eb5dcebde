use Rattle.std.proofs.Common.{rules}
use Rattle.lpm_commands.proofs.FilledTable.{ends_longer}
use Rattle.lpm_commands.proofs.tables.load.Goals as goal

pub returns-in_err-table-clause-failure : goal.returns-in_err-table-clause-failure
returns-in_err-table-clause-failure c =
    let ends = ends_longer c.args.config c.args.path.now c.args.routes.now c.min-count.result _ c.in_err-table.ensures.failure in
    search rules
