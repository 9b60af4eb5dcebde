use Rattle.std.proofs.Common.{◌-◌, ◌≡◌}
use Rattle.lpm_update.proofs.Onward.{Visited}
use Rattle.lpm_update.proofs.rewrite_range.RewriteRange.rewrite_all.Given as goal

abbrev pub invariant-loop-self : goal.invariant-loop-self
invariant-loop-self g l =
    let C = g.C.Cells in
    record {
      visited : Visited C.words C.sets_first C.sets_second g.row.FIRST g.row.SECOND l.fn.self l.fn.cells l.self l.cells;
      rewrite : l.self.rewrite ≡ l.fn.self.rewrite;
    }

abbrev pub decreases-loop-self : goal.decreases-loop-self
decreases-loop-self g l = l.self.end - l.self.at
