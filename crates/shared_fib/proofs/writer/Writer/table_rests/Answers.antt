use Rattle.std.proofs.Common.{subst}
use Rattle.shared_fib.specs.RunningTable.{Rests}
use Rattle.shared_fib.proofs.SeatMemory.{at_rest}
use Rattle.shared_fib.proofs.writer.Writer.table_rests.Goals as goal

pub returns : goal.returns
returns g c =
    let l = c.self.inside.control in
    let seat = c.self.inside.seat in
    subst Rests c.self.view_is
    (at_rest g.row.FIRST g.row.SECOND (record { words = seat.table; initial = seat.view.initial })
    l.config l.rules seat.view.writer_steps l.pool l.versions c.steps_are_lawful.ensures.written c.self.invariant.rests)
