use Rattle.std.proofs.Common.{sym, subst, ◌∙◌, None}
use Rattle.lpm_update.specs.declared.update.Plan.TheVariants.{Range, Link}
use Rattle.lpm_update.specs.Laws.{RunsOn}
use Rattle.lpm_update.proofs.Onward.{advances_same, advances_step, keeps_groups, ran_all, ran_to}
use Rattle.lpm_update.proofs.update.Update.run.Goals as goal

pub loop-group-init : goal.loop-group-init
loop-group-init g c =
    let C = g.C.Cells in
    rw c.self.view_is (advances_same C.words C.sets_first C.sets_second g.row.FIRST g.row.SECOND c.args.self.now c.args.cells.now c.requires.table c.requires.under_way)

pub step-requires-clause-allows : goal.step-requires-clause-allows
step-requires-clause-allows g c =
    let known = c.loop-group.invariant in
    c.requires.allows known.dids c.loop-group.self c.loop-group.cells known.leads

pub loop-group-preserved : goal.loop-group-preserved
loop-group-preserved g c =
    let C = g.C.Cells in
    let n = keeps_groups c.step.result c.in_default-step.not-Unlinked c.in_default-step.not-Done in
    advances_step C.words C.sets_first C.sets_second g.row.FIRST g.row.SECOND c.args.self.now c.args.cells.now c.step.result c.loop-group.self c.loop-group.cells c.step.new.self c.step.new.cells n
    c.loop-group.invariant c.step.ensures.steps c.step.ensures.sets

pub returns-in-Range : goal.returns-in-Range
returns-in-Range g c =
    let C = g.C.Cells in
    let same = sym c.in-Range.is ∙ c.self.view_is in
    subst (λ x. RunsOn C.words C.sets_first C.sets_second g.row.FIRST g.row.SECOND x c.args.cells.now None (Range c.rewrite_all.new.self) c.rewrite_all.new.cells) same c.rewrite_all.ensures

pub returns-in-Link : goal.returns-in-Link
returns-in-Link g c =
    let C = g.C.Cells in
    let same = sym c.in-Link.is ∙ c.self.view_is in
    subst (λ x. RunsOn C.words C.sets_first C.sets_second g.row.FIRST g.row.SECOND x c.args.cells.now None (Link c.link_all.new.self) c.link_all.new.cells) same c.link_all.ensures

pub returns-in-Unlinked : goal.returns-in-Unlinked
returns-in-Unlinked g c =
    let C = g.C.Cells in
    let h = c.in-Unlinked.ensures in
    ran_to C.words C.sets_first C.sets_second g.row.FIRST g.row.SECOND c.args.self.now c.args.cells.now c.loop-group.self c.loop-group.cells c.in-Unlinked.block c.in-Unlinked.group c.step.new.self
    c.step.new.cells c.loop-group.invariant h.steps h.sets

pub returns-in-Done : goal.returns-in-Done
returns-in-Done g c =
    let C = g.C.Cells in
    let h = c.in-Done.ensures in
    ran_all C.words C.sets_first C.sets_second g.row.FIRST g.row.SECOND c.args.self.now c.args.cells.now c.loop-group.self c.loop-group.cells c.step.new.self c.step.new.cells c.loop-group.invariant h.steps
    h.sets
