use Rattle.std.proofs.Common.{ap, ◌∙◌}
use Rattle.lpm_trace.specs.declared.step.WriterStep.TheVariants.{StoreFirst}
use Rattle.interleave.specs.View.{WorldView}
use Rattle.interleave.proofs.Turns.{view_in, step_does_in}
use Rattle.interleave.proofs.WriterSteps.{with_recorded_step, with_unrecorded_step}
use Rattle.interleave.proofs.memory.WorldMemoryCells.set_first.Goals as goal

pub returns-clause-set : goal.returns-clause-set
returns-clause-set g c =
    let y : WorldView = view_in g.row.FIRST g.row.SECOND c.self.inside in
    let step = StoreFirst c.args.i c.args.word in
    let words = c.set_first.ensures.words in
    step_does_in y step c.reach.result c.self.view_is c.reach.ensures.shared c.reach.ensures.reaches c.reach.ensures.found tt
    (λ low. c.note.ensures.left low ∙ ap (λ t. record (with_recorded_step y step) { words = t }) words)
    (λ all. c.note.ensures.ended all ∙ ap (λ t. record (with_unrecorded_step y step) { words = t }) words)
