use Rattle.std.proofs.Common.{◌+◌, ◌-◌, ◌^◌}
use Rattle.lpm_update.specs.declared.update.Plan.TheVariants.{Link}
use Rattle.lpm_update.proofs.Onward.{Advances}
use Rattle.lpm_update.proofs.link_group.LinkGroup.link_all.Given as goal

abbrev pub invariant-loop : goal.invariant-loop
invariant-loop g l =
    let C = g.C.Cells in
    Advances C.words C.sets_first C.sets_second g.row.FIRST g.row.SECOND (Link l.fn.self) l.fn.cells (Link l.self) l.cells

abbrev pub decreases-loop : goal.decreases-loop
decreases-loop g l = 2 ^ g.row.SECOND + 1 - l.self.next
