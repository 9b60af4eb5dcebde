use Rattle.std.proofs.lemmas.Result.{IfOk-weaker}
use Rattle.lpm_commands.proofs.CoverSearch.{explains_by}
use Rattle.lpm_commands.proofs.explain_command.text_of_table.Goals as goal

pub returns : goal.returns
returns c = IfOk-weaker c.explanations.result _ _ (λ v told. explains_by c.into_parts-control.result.0 c.into_parts-control.result.1 c.args.table _ _ c.into_parts-control.ensures.sound c.into_parts-control.ensures.config c.into_parts-control.ensures.table told) c.explanations.ensures
