use Rattle.std.proofs.Common.{◌∙◌, ap, sym, arith}
use Rattle.qsbr.specs.Counters.{Registry}
use Rattle.shared_fib.specs.RunningTable.{initial_writer}
use Rattle.lpm_commands.proofs.Texts.{versions_within}
use Rattle.lpm_commands.proofs.tables.open_for_changes.Goals as goal

pub returns-clause-opened : goal.returns-clause-opened
returns-clause-opened c =
    let is = c.in_ok-fib.ensures in
    c.in_ok-table.ensures.opened ∙ (λ i. initial_writer c.in_ok-table.table (is.config i) (is.loaded.rules i))

pub returns-clause-token : goal.returns-clause-token
returns-clause-token c =
    let readers = c.in_ok-fib.ensures.loaded.readers in
    c.in_ok-table.ensures.token ∙ ap (λ (r : Registry). r.token) readers

pub returns-clause-loaded : goal.returns-clause-loaded
returns-clause-loaded c = (c.in_ok-fib.fib.table, c.in_ok-fib.ensures.loaded, sym c.versions-versions.ensures)

pub returns-clause-few : goal.returns-clause-few
returns-clause-few c =
    let few = versions_within c.args.config c.args.routes.now c.in_ok-fib.fib.table c.in_ok-fib.ensures.loaded in
    omega (arith, few, c.versions-versions.ensures)
