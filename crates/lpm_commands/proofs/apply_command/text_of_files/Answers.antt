use Rattle.std.proofs.Common.{rules}
use Rattle.std.proofs.lemmas.Result.{IfOk-weaker, IfErr-weaker}
use Rattle.lpm_commands.proofs.Texts.{is_apply_text, ends_apply}
use Rattle.lpm_commands.proofs.apply_command.text_of_files.Goals as goal

pub returns-clause-text : goal.returns-clause-text
returns-clause-text g c =
    IfOk-weaker c.text_of_lists.result _ _ (λ v told.
    is_apply_text _ _ _ _ c.in_ok-list.list.items _ c.in_ok-orders.orders.items _ c.in_ok-addrs.addrs.items _ v.items c.in_ok-list.ensures.items c.in_ok-orders.ensures.items c.in_ok-addrs.ensures.items c.deref.ensures.value c.deref-2.ensures.value c.deref-3.ensures.value told)
    c.text_of_lists.ensures.text

pub returns-clause-failure : goal.returns-clause-failure
returns-clause-failure g c =
    IfErr-weaker c.text_of_lists.result _ _ (λ e ends.
    ends_apply _ c.args.routes.now c.args.updates.now c.args.addresses.now (g.F.Files.bytes c.args.files.now) c.in_ok-list.list.items _ c.in_ok-orders.orders.items c.in_ok-addrs.addrs.items e c.in_ok-list.ensures.items c.in_ok-orders.ensures.items c.in_ok-addrs.ensures.items c.deref.ensures.value ends)
    c.text_of_lists.ensures.failure

pub returns-in_err-orders-clause-failure : goal.returns-in_err-orders-clause-failure
returns-in_err-orders-clause-failure g c = search rules
