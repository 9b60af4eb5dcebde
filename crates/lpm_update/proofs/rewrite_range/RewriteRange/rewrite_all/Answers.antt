use Rattle.std.proofs.Common.{refl, ◌+◌, sym, subst, ◌∙◌}
use Rattle.lpm_update.specs.declared.update.Plan.TheVariants.{Range}
use Rattle.lpm_update.specs.Rewrite.{IsOnWords}
use Rattle.lpm_update.proofs.Onward.{visited_same, visited_visit, visited_all}
use Rattle.lpm_update.proofs.RangeSteps.{mid_allows}
use Rattle.lpm_update.proofs.rewrite_range.RewriteRange.rewrite_all.Goals as goal

pub loop-self-init : goal.loop-self-init
loop-self-init g c =
    let C = g.C.Cells in
    record {
      visited = visited_same C.words C.sets_first C.sets_second g.row.FIRST g.row.SECOND c.args.self.now c.args.cells.now c.requires.table c.requires.under_way;
      rewrite = refl;
    }

pub visit-requires-clause-allows : goal.visit-requires-clause-allows
visit-requires-clause-allows g c =
    let C = g.C.Cells in
    let d = c.loop-self.cells in
    let known = c.loop-self.invariant.visited in
    mid_allows g.row.SECOND known.last c.loop-self.self (C.words d) known.further known.skips g.row.FIRST (C.may_set_first d) (C.may_set_second d)
    (c.requires.allows known.advances.dids (Range known.last) d known.advances.leads)

pub visit-requires-clause-on : goal.visit-requires-clause-on
visit-requires-clause-on g c =
    let width = g.row.FIRST + g.row.SECOND in
    subst (λ x. IsOnWords width x c.on_words-on.result) (sym c.loop-self.invariant.rewrite) (c.on_words-on.ensures width c.requires.shape.2)

pub loop-self-preserved : goal.loop-self-preserved
loop-self-preserved g c =
    let C = g.C.Cells in
    let known = c.loop-self.invariant in
    let visits = c.visit.ensures.visits in
    record {
      visited = visited_visit C.words C.sets_first C.sets_second g.row.FIRST g.row.SECOND c.args.self.now c.args.cells.now c.loop-self.self c.loop-self.cells known.visited c.visit.new.self
          c.visit.result c.visit.new.cells visits c.visit.ensures.sets;
      rewrite = visits.further.rewrite ∙ known.rewrite;
    }

pub returns : goal.returns
returns g c =
    let C = g.C.Cells in
    visited_all C.words C.sets_first C.sets_second g.row.FIRST g.row.SECOND c.args.self.now c.args.cells.now c.loop-self.self c.loop-self.cells c.loop-self.invariant.visited c.loop-self-test.false
