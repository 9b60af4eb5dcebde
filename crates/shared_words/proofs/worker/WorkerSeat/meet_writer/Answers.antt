use Rattle.std.proofs.Common.{refl, rules, arith, ap, ◌∙◌, sym, subst}
use Rattle.atomic_table.specs.Table.{Me}
use Rattle.lpm_trace.specs.Trace.{IsBetweenDeeds, worker_by}
use Rattle.shared_words.specs.declared.view.View.{View}
use Rattle.shared_words.specs.Seats.{WorkerAt}
use Rattle.shared_words.proofs.WorkerSteps.{meets_allowed, own_inside, writer_inside}
use Rattle.shared_words.proofs.Deeds.{notes_split, notes_join, compares_allowed}
use Rattle.shared_words.proofs.worker.WorkerSeat.meet_writer.Goals as goal

pub split_seat-note-requires : goal.split_seat-note-requires
split_seat-note-requires g c =
    let own = writer_inside c.table.view_is c.writer.view_is c.requires.writer in (own.same, omega (arith, own.words), notes_split _ _ _)

pub join_seat-requires : goal.join_seat-requires
join_seat-requires g c =
    let own = own_inside c.table.view_is c.self.view_is c.requires.own in
    (own.same, search rules, search rules, omega (arith, own.words), notes_join _ _ _ _ _)

pub load-requires : goal.load-requires
load-requires g c =
    let own = own_inside c.table.view_is c.self.view_is c.requires.own in
    let heard = c.join_seat.ensures.2 in
    let between = subst (λ (s : WorkerAt). IsBetweenDeeds (worker_by s.view.own_steps).phase) (sym c.self.view_is) c.requires.between in (
      search rules,
      omega (arith, own.words),
      meets_allowed _ _ _ _ _ _ (ap {A = Me (Unit {0}) View} (λ m. m.0.role) heard ∙ c.self.invariant.role)
          refl
          (subst (λ (m : Me (Unit {0}) View). IsBetweenDeeds (worker_by m.0.own_steps).phase)
          (sym heard) between),
    )

pub split_seat-note-requires-2 : goal.split_seat-note-requires-2
split_seat-note-requires-2 g c =
    let own = own_inside c.table.view_is c.self.view_is c.requires.own in (search rules, omega (arith, own.words), notes_split _ _ _)

pub join_seat-requires-2 : goal.join_seat-requires-2
join_seat-requires-2 g c =
    let own = writer_inside c.table.view_is c.writer.view_is c.requires.writer in
    (search rules, search rules, search rules, omega (arith, own.words), notes_join _ _ _ _ _)

pub load-requires-2 : goal.load-requires-2
load-requires-2 g c =
    let own = writer_inside c.table.view_is c.writer.view_is c.requires.writer in (
      search rules,
      omega (arith, own.words),
      compares_allowed _ _ _ _ _ (ap {A = Me (Unit {0}) View} (λ m. m.0.role) c.join_seat-2.ensures.2
          ∙ (ap {A = Me (Unit {0}) View} (λ m. m.0.role) c.split_seat-note.ensures.2
          ∙ c.writer.invariant.role)),
    )

pub returns-clause-step : goal.returns-clause-step
returns-clause-step g c = search rules
