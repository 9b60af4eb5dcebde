use Rattle.std.proofs.lemmas.Result.{on_ok_weaker}
use Rattle.lpm_commands.proofs.CoverSearch.{explained_by}
use Rattle.lpm_commands.proofs.explain_command.put_explained.Goals as goal

pub returns : goal.returns
returns c = on_ok_weaker c.put_explanation.result (explained_by c.args.rules.now.rules c.args.cells.now c.args.addr c.in_ok-found.found.items c.deref.result.now c.reading_of.result c.args.text.now.items c.put_explanation.new.text.items c.deref.ensures.value c.in_ok-found.ensures.covering c.in_ok-found.ensures.answered c.reading_of.ensures) c.put_explanation.ensures
