use Rattle.lpm_update.specs.Update.{places_left}
use Rattle.lpm_update.proofs.Onward.{Advances}
use Rattle.lpm_update.proofs.update.Update.run.Given as goal

abbrev pub invariant-loop-group : goal.invariant-loop-group
invariant-loop-group g l =
    let C = g.C.Cells in
    Advances C.words C.sets_first C.sets_second g.row.FIRST g.row.SECOND l.fn.self l.fn.cells l.self l.cells

abbrev pub decreases-loop-group : goal.decreases-loop-group
decreases-loop-group g l = places_left g.row.FIRST g.row.SECOND l.self
