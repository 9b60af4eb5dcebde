use Rattle.std.proofs.Common.{◌∙◌, ap, arith}
use Rattle.lpm_commands.specs.Load.{rules_of_routes}
use Rattle.lpm_commands.proofs.FilledTable.{loads_filled}
use Rattle.lpm_commands.proofs.tables.open_and_add.Goals as goal

pub returns-clause-loads : goal.returns-clause-loads
returns-clause-loads c =
    let is = c.in-Some.ensures in
    loads_filled c.args.config c.args.routes.items c.in-Some.fib.table (omega arith) (is.rules ∙ ap rules_of_routes c.deref.ensures.value) is.filled
