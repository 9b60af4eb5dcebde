use Rattle.std.proofs.Common.{List, subst, rules}
use Rattle.route_text.specs.declared.routes.Route.{Route}
use Rattle.lpm_commands.specs.Load.{IsLoaded}
use Rattle.lpm_commands.proofs.CoverSearch.{is_explain_text}
use Rattle.lpm_commands.proofs.explain_command.explain.Goals as goal

pub returns-clause-done : goal.returns-clause-done
returns-clause-done g c =
    let loaded = subst (λ (list : List Route). IsLoaded c.args.config list c.in_ok-table.table.table) c.deref.ensures.value c.in_ok-table.ensures.loaded in
    let is = is_explain_text c.args.config (g.F.Files.bytes c.args.files.now c.args.routes.now) c.in_ok-list.list.items c.args.addrs.now c.in_ok-table.table c.in_ok-text.text.items c.in_ok-list.ensures.items c.in_ok-table.ensures.config loaded c.in_ok-text.ensures in
    search rules

pub returns-clause-beginning : goal.returns-clause-beginning
returns-clause-beginning g c =
    let loaded = subst (λ (list : List Route). IsLoaded c.args.config list c.in_ok-table.table.table) c.deref.ensures.value c.in_ok-table.ensures.loaded in
    let is = is_explain_text c.args.config (g.F.Files.bytes c.args.files.now c.args.routes.now) c.in_ok-list.list.items c.args.addrs.now c.in_ok-table.table c.in_ok-text.text.items c.in_ok-list.ensures.items c.in_ok-table.ensures.config loaded c.in_ok-text.ensures in
    search rules
