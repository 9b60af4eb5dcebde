use Rattle.std.proofs.Common.{◌-◌, ◌≡◌}
use Rattle.lpm_update.specs.declared.update.Plan.TheVariants.{Range}
use Rattle.lpm_update.specs.Rewrite.{Skips}
use Rattle.lpm_update.specs.Kinds.{IsFurther}
use Rattle.lpm_update.specs.Update.{IsUnderWay}
use Rattle.lpm_update.proofs.rewrite_range.RewriteRange.rewrite_next.Given as goal

-- so far nothing was stored
abbrev pub invariant-loop-self : goal.invariant-loop-self
invariant-loop-self g l =
    let words = g.C.Cells.words l.fn.cells in
    record {
      same : l.cells ≡ l.fn.cells;
      further : IsFurther l.fn.self l.self;
      under_way : IsUnderWay g.row.FIRST g.row.SECOND (Range l.self) words;
      skips : Skips g.row.SECOND l.fn.self.rewrite words l.fn.self.at l.self.at;
    }

abbrev pub decreases-loop-self : goal.decreases-loop-self
decreases-loop-self g l = l.self.end - l.self.at
