use Rattle.std.proofs.Common.{[], ◌∷◌, ◌++◌, ap, ◌∙◌, add-one}
use Rattle.lpm_trace.specs.declared.shown_step.Kind.TheVariants as kind
use Rattle.lpm_trace.specs.declared.step.WriterStep.TheVariants.{BumpToken}
use Rattle.interleave.specs.Record.{step_of_writer}
use Rattle.interleave.specs.View.{WorldView}
use Rattle.interleave.proofs.Turns.{view_in, step_does_in}
use Rattle.interleave.proofs.WriterSteps.{with_recorded_step, with_unrecorded_step}
use Rattle.interleave.proofs.memory.WorldMemoryMemory.bump.Goals as goal

pub returns-clause-does : goal.returns-clause-does
returns-clause-does g c =
    let y : WorldView = view_in g.row.FIRST g.row.SECOND c.self.inside in
    step_does_in y BumpToken c.reach.result c.self.view_is c.reach.ensures.shared c.reach.ensures.reaches c.reach.ensures.found tt
    (λ low. c.note.ensures.left low ∙ ap (λ n. record (with_recorded_step y BumpToken) { token = n; steps = y.steps ++ step_of_writer kind.BumpToken 0 n ∷ [] }) (add-one y.token))
    (λ all. c.note.ensures.ended all ∙ ap (λ n. record (with_unrecorded_step y BumpToken) { token = n }) (add-one y.token))
