use Rattle.std.proofs.Common.{subst}
use Rattle.std.proofs.lemmas.Result.{IfOk-weaker}
use Rattle.lpm_limits.specs.declared.config.Config.{Config}
use Rattle.lpm_commands.specs.Report.{IsReportedAfter}
use Rattle.lpm_commands.proofs.report_command.text_of_lists.Goals as goal

pub returns-clause-text : goal.returns-clause-text
returns-clause-text c =
    let table = c.in_ok-table.table.table in
    IfOk-weaker c.text_on_table.result _ _ (λ v after.
    (table, (c.text_on_table.new.table, c.in_ok-table.ensures.loaded, subst (λ (k : Config). IsReportedAfter k table c.args.orders.now c.text_on_table.new.table v.items) c.in_ok-table.ensures.config after)))
    c.text_on_table.ensures.text
