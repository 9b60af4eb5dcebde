use Rattle.std.proofs.Common.{◌+◌, sym, subst}
use Rattle.lpm_update.specs.declared.update.Plan.TheVariants.{Range}
use Rattle.lpm_update.specs.Rewrite.{IsOnWords}
use Rattle.lpm_update.specs.Kinds.{Visits}
use Rattle.lpm_update.specs.Step.{AllowsNext, SetsWord}
use Rattle.lpm_update.proofs.RangeSteps.{mid_allows, mid_steps}
use Rattle.lpm_update.proofs.rewrite_range.RewriteRange.rewrite_next.Goals as goal

pub visit-requires-clause-on : goal.visit-requires-clause-on
visit-requires-clause-on g c =
    let width = g.row.FIRST + g.row.SECOND in
    subst (λ x. IsOnWords width x c.on_words-on.result) (sym c.loop-self.invariant.further.rewrite) (c.on_words-on.ensures width c.requires.shape.2)

pub visit-requires-clause-allows : goal.visit-requires-clause-allows
visit-requires-clause-allows g c =
    let C = g.C.Cells in
    let old = c.args.cells.now in
    let m = c.loop-self.self in
    let known = c.loop-self.invariant in
    subst (λ x. AllowsNext g.row.FIRST g.row.SECOND (Range m) (C.words x) (C.may_set_first x) (C.may_set_second x)) (sym known.same)
    (mid_allows g.row.SECOND c.args.self.now m (C.words old) known.further known.skips g.row.FIRST (C.may_set_first old) (C.may_set_second old) c.requires.allows)

pub returns-in_default : goal.returns-in_default
returns-in_default g c =
    let C = g.C.Cells in
    let f = g.row.FIRST in
    let s = g.row.SECOND in
    let u = c.args.self.now in
    let m = c.loop-self.self in
    let known = c.loop-self.invariant in
    let did = c.visit.result in
    let new = c.visit.new in
    let W = C.words c.args.cells.now in
    record {
      steps = mid_steps s u m W known.further known.skips f did new.self (C.words new.cells) c.requires.table c.requires.under_way c.in_default.not-Done
          (subst (λ x. Visits f s m (C.words x) did new.self (C.words new.cells)) known.same c.visit.ensures.visits);
      sets = subst (λ x. SetsWord C.words C.sets_first C.sets_second x did new.cells) known.same c.visit.ensures.sets;
      skips = λ done. absurd (c.in_default.not-Done done);
    }
