-- Proofs of what the trait asks of a memory: what a list of the writer's steps leaves of the pure world.
use Rattle.std.specs.Prelude.{◌≡◌, ℕ, List, [], ◌∷◌, ◌++◌, length}
use Rattle.std.proofs.Common.{refl, sym, ap, subst, ◌∙◌}
use Rattle.lpm_trace.specs.declared.step.WriterStep.{WriterStep}
use Rattle.lpm_trace.specs.declared.step.TraceStep.{TraceStep}
use Rattle.lpm_trace.specs.States.{InitialState, state_after}
use Rattle.lpm_trace.specs.Trace.{writes}
use Rattle.lpm_trace.specs.Writer.{IsWritten}
use Rattle.lpm_trace.proofs.Checks.{writer_is_alone}
use Rattle.interleave.specs.View.{WorldView}
use Rattle.interleave.specs.World.{with_beyond, WorldDid}

-- the writer's own steps of the whole trace
pub writes_beyond : (beyond : List WriterStep) (trace : List TraceStep)
    → writes (with_beyond beyond trace) ≡ beyond ++ writes trace
writes_beyond [] trace = refl
writes_beyond (s ∷ beyond) trace = ap (λ xs. s ∷ xs) (writes_beyond beyond trace)

pub world_shows : (first second : ℕ) (v : WorldView) (c : InitialState) (steps : List WriterStep)
    → WorldDid first second v c steps
    → (v.words ≡ (state_after c steps).words) × (v.token ≡ (state_after c steps).token) × (length v.scripts ≡ c.workers)
world_shows first second v c steps did =
    let world = did.2 in (
      world.words_are ∙ ap (λ xs. (state_after c xs).words) (sym did.3),
      world.token_is ∙ ap (λ xs. (state_after c xs).token) (sym did.3),
      sym world.workers,
    )

pub world_written : (first second : ℕ) (v : WorldView) (c : InitialState) (steps : List WriterStep)
    → WorldDid first second v c steps → IsWritten c steps
world_written first second v c steps did =
    subst (IsWritten c) (writes_beyond did.1 did.0 ∙ sym did.3)
    (writer_is_alone c (with_beyond did.1 did.0) did.2.may_come)
