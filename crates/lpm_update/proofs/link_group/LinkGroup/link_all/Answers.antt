use Rattle.lpm_update.specs.declared.update.Plan.TheVariants.{Link}
use Rattle.lpm_update.proofs.Onward.{advances_same, advances_step, keeps_groups, link_keeps, ran_all}
use Rattle.lpm_update.proofs.link_group.LinkGroup.link_all.Goals as goal

pub loop-init : goal.loop-init
loop-init g c =
    let C = g.C.Cells in
    advances_same C.words C.sets_first C.sets_second g.row.FIRST g.row.SECOND (Link c.args.self.now) c.args.cells.now c.requires.table c.requires.under_way

pub link_next-requires-clause-allows : goal.link_next-requires-clause-allows
link_next-requires-clause-allows g c =
    let known = c.loop.invariant in
    c.requires.allows known.dids (Link c.loop.self) c.loop.cells known.leads

pub loop-preserved : goal.loop-preserved
loop-preserved g c =
    let C = g.C.Cells in
    let f = g.row.FIRST in
    let s = g.row.SECOND in
    let v = Link c.link_next.new.self in
    let h = c.link_next.ensures.steps in
    let n = keeps_groups c.link_next.result (link_keeps f s c.loop.self v (C.words c.loop.cells) (C.words c.link_next.new.cells) c.link_next.result h) c.in_default.not-Done in
    advances_step C.words C.sets_first C.sets_second f s (Link c.args.self.now) c.args.cells.now c.link_next.result (Link c.loop.self) c.loop.cells v c.link_next.new.cells n c.loop.invariant h c.link_next.ensures.sets

pub returns-in-Done : goal.returns-in-Done
returns-in-Done g c =
    let C = g.C.Cells in
    let h = c.in-Done.ensures in
    ran_all C.words C.sets_first C.sets_second g.row.FIRST g.row.SECOND (Link c.args.self.now) c.args.cells.now (Link c.loop.self) c.loop.cells (Link c.link_next.new.self) c.link_next.new.cells c.loop.invariant h.steps h.sets
