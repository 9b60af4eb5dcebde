use Rattle.lpm_options.specs.Commands.{the_app, program_app}
use Rattle.lpm_options.specs.Commands.{lookup_app, explain_app, apply_app, report_app, storm_app, migrate_app}
use Rattle.lpm_options.proofs.commands.whole_command.Goals as goal

pub returns : goal.returns
unfolding the_app
returns c =
    let one = c.with_command-made.ensures program_app lookup_app c.program.ensures c.lookup_command.ensures in
    let two = c.with_command-made-2.ensures _ explain_app one c.explain_command.ensures in
    let three = c.with_command-made-3.ensures _ apply_app two c.apply_command.ensures in
    let four = c.with_command-made-4.ensures _ report_app three c.report_command.ensures in
    let five = c.with_command-made-5.ensures _ storm_app four c.storm_command.ensures in
    c.with_command.ensures _ migrate_app five c.migrate_command.ensures
