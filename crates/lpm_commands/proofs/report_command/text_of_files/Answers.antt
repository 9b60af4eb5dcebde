use Rattle.std.proofs.lemmas.Result.{IfOk-weaker, IfErr-weaker}
use Rattle.lpm_commands.proofs.Texts.{is_report_text, ends_report}
use Rattle.lpm_commands.proofs.report_command.text_of_files.Goals as goal

pub returns-clause-text : goal.returns-clause-text
returns-clause-text g c =
    IfOk-weaker c.text_of_lists.result _ _ (λ v after.
    is_report_text _ _ _ c.in_ok-list.list.items _ c.in_ok-orders.orders.items _ v.items c.in_ok-list.ensures.items c.in_ok-orders.ensures.items c.deref.ensures.value c.deref-2.ensures.value after)
    c.text_of_lists.ensures.text

pub returns-clause-failure : goal.returns-clause-failure
returns-clause-failure g c =
    IfErr-weaker c.text_of_lists.result _ _ (λ e ends.
    ends_report _ c.args.routes.now c.args.updates.now (g.F.Files.bytes c.args.files.now) c.in_ok-list.list.items _ c.in_ok-orders.orders.items e c.in_ok-list.ensures.items c.in_ok-orders.ensures.items c.deref.ensures.value ends)
    c.text_of_lists.ensures.failure
