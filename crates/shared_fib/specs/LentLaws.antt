-- Proofs of what the trait asks of a memory: what one more step leaves of the memory of a running table.
use Rattle.std.proofs.Common.{◌≡◌, List, ◌∷◌, ap, sym, subst, ◌∙◌}
use Rattle.lpm_trace.specs.declared.step.WriterStep.{WriterStep}
use Rattle.lpm_trace.specs.States.{InitialState, state_after}
use Rattle.lpm_trace.specs.Writer.{MayStep}
use Rattle.lpm_writer.specs.Plain.{MayBeNext}
use Rattle.shared_words.specs.declared.view.View.{View}
use Rattle.shared_words.specs.Layout.{initial_state_of}
use Rattle.shared_words.specs.Seats.{MayFollow}
use Rattle.shared_fib.specs.LentSeats.{LentSeat, SharedDid, SharedDoes, state_of_lent}

pub shared_follows : (m : LentSeat) (s : WriterStep) (z : LentSeat) (c : InitialState) (steps : List WriterStep)
    → SharedDoes s m z → SharedDid m c steps → MayStep c steps s → SharedDid z c (s ∷ steps)
shared_follows m s z c steps does did may = record {
  initial = did.initial ∙ ap (λ (v : View). initial_state_of v.initial) (sym does.view);
  steps_are = ap (λ (l : List WriterStep). s ∷ l) did.steps_are
      ∙ ap (λ (v : View). v.writer_steps) (sym does.view);
  written = (may, did.written);
}

pub shared_shows : (m : LentSeat) (c : InitialState) (steps : List WriterStep) → SharedDid m c steps
    → ((state_of_lent m).words ≡ (state_after c steps).words)
    × ((state_of_lent m).token ≡ (state_after c steps).token)
    × (m.view.initial.workers ≡ c.workers)
shared_shows m c steps did = (
  ap (λ (z : InitialState × List WriterStep). (state_after z.0 z.1).words)
      (λ i. (sym did.initial i, sym did.steps_are i)),
  ap (λ (z : InitialState × List WriterStep). (state_after z.0 z.1).token)
      (λ i. (sym did.initial i, sym did.steps_are i)),
  ap (λ (z : InitialState). z.workers) (sym did.initial),
)

pub shared_may : (m : LentSeat) (s : WriterStep) → MayBeNext SharedDid m s → MayFollow m.view s
shared_may m s may =
    let did = may.2 in
    subst (λ (z : InitialState × List WriterStep). MayStep z.0 z.1 s)
    (λ i. (did.initial i, did.steps_are i)) may.3
