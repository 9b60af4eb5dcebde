use Rattle.std.proofs.Common.{inr, subst}
use Rattle.std.proofs.lemmas.Result.{IfOk-weaker, IfErr-weaker}
use Rattle.lpm_limits.specs.declared.config.Config.{Config}
use Rattle.lpm_commands.specs.Apply.{IsToldAfter}
use Rattle.lpm_commands.specs.Lookup.{EndsAnswering}
use Rattle.lpm_commands.proofs.apply_command.text_of_lists.Goals as goal

pub returns-clause-text : goal.returns-clause-text
returns-clause-text g c =
    let table = c.in_ok-table.table.table in
    IfOk-weaker c.text_on_table.result _ _ (λ v told.
    (table, (c.text_on_table.new.table.table, c.in_ok-table.ensures.loaded, subst (λ (k : Config). IsToldAfter k table c.args.orders.now c.args.addrs.now c.text_on_table.new.table.table v.items) c.in_ok-table.ensures.config told)))
    c.text_on_table.ensures.text

pub returns-clause-failure : goal.returns-clause-failure
returns-clause-failure g c =
    let table = c.in_ok-table.table.table in
    IfErr-weaker c.text_on_table.result _ _ (λ e ends.
    inr ((table, c.in_ok-table.ensures.loaded), subst (λ (k : Config). EndsAnswering k.workers e) c.in_ok-table.ensures.config ends))
    c.text_on_table.ensures.failure
