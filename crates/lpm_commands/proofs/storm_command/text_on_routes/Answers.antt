use Rattle.std.proofs.lemmas.Result.{IfOk-weaker, IfErr-weaker}
use Rattle.lpm_commands.proofs.Texts.{are_loaded, ends_after}
use Rattle.lpm_commands.proofs.storm_command.text_on_routes.Goals as goal

pub returns-in-Ok-clause-text : goal.returns-in-Ok-clause-text
returns-in-Ok-clause-text g c =
    let is = c.in-Ok.ensures.loaded in
    let loaded = are_loaded c.args.plan.now c.args.limits c.args.routes.now c.in-Ok.versions c.requires.limits c.requires.rules is.0 is.1 is.2 in
    IfOk-weaker c.text_on_table.result _ _ (λ v came. record { in_range = c.requires.in_range; versions = c.in-Ok.versions; loaded = loaded; came = came })
    c.text_on_table.ensures.text

pub returns-in-Ok-clause-failure : goal.returns-in-Ok-clause-failure
returns-in-Ok-clause-failure g c =
    let is = c.in-Ok.ensures.loaded in
    let loaded = are_loaded c.args.plan.now c.args.limits c.args.routes.now c.in-Ok.versions c.requires.limits c.requires.rules is.0 is.1 is.2 in
    IfErr-weaker c.text_on_table.result _ _ (λ e ends. ends_after c.args.plan.now c.args.path.now c.args.routes.now c.in-Ok.versions e loaded ends)
    c.text_on_table.ensures.failure
