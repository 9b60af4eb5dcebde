use Rattle.std.proofs.Common.{arith, ap, ◌∙◌, ◌+◌, ◌-◌, length, get_or}
use Rattle.std.proofs.lemmas.List.{get_or_read}
use Rattle.audit.proofs.Spans.{none_more, not_given, none_at_end}
use Rattle.audit.proofs.past.Past.some_gives.Goals as goal

pub loop-version-preserved-then-not-touches : goal.loop-version-preserved-then-not-touches
loop-version-preserved-then-not-touches g c =
    let version = c.loop-version.version in
    let long = ap (λ h. length h) c.history-history.ensures in
    none_more g.row.FIRST g.row.SECOND c.args.self.now c.args.addr c.args.answer.now.hop c.args.first c.args.last version c.loop-version.invariant
    (not_given g.row.FIRST g.row.SECOND c.args.self.now c.args.addr c.args.answer.now.hop c.args.first c.args.last version c.index-history-version.result (omega arith) (omega arith)
    (λ d.
    get_or_read c.history-history.result.now (version - 1) c.index-history-version.result (omega (arith, long)) c.index-history-version.is d
    ∙ ap (λ h. get_or h (version - 1) d) c.history-history.ensures)
    (λ t. let e = c.if-not-touches.ensures.1 t in cc) c.loop-version.invariant)

pub loop-version-preserved : goal.loop-version-preserved
loop-version-preserved g c =
    none_more g.row.FIRST g.row.SECOND c.args.self.now c.args.addr c.args.answer.now.hop c.args.first c.args.last c.loop-version.version c.loop-version.invariant
    (λ is. let e = c.if-gives.ensures.1 is in cc)

pub returns-then-not-touches : goal.returns-then-not-touches
returns-then-not-touches g c =
    let version = c.loop-version.version in
    let long = ap (λ h. length h) c.history-history.ensures in
    none_at_end g.row.FIRST g.row.SECOND c.args.self.now c.args.addr c.args.answer.now.hop c.args.first c.args.last (version + 1)
    (none_more g.row.FIRST g.row.SECOND c.args.self.now c.args.addr c.args.answer.now.hop c.args.first c.args.last version c.loop-version.invariant
    (not_given g.row.FIRST g.row.SECOND c.args.self.now c.args.addr c.args.answer.now.hop c.args.first c.args.last version c.index-history-version.result (omega arith) (omega arith)
    (λ d.
    get_or_read c.history-history.result.now (version - 1) c.index-history-version.result (omega (arith, long)) c.index-history-version.is d
    ∙ ap (λ h. get_or h (version - 1) d) c.history-history.ensures)
    (λ t. let e = c.if-not-touches.ensures.1 t in cc) c.loop-version.invariant))
    (omega arith)

pub returns-else-gives : goal.returns-else-gives
returns-else-gives g c =
    none_at_end g.row.FIRST g.row.SECOND c.args.self.now c.args.addr c.args.answer.now.hop c.args.first c.args.last (c.loop-version.version + 1)
    (none_more g.row.FIRST g.row.SECOND c.args.self.now c.args.addr c.args.answer.now.hop c.args.first c.args.last c.loop-version.version c.loop-version.invariant
    (λ is. let e = c.if-gives.ensures.1 is in cc))
    (omega arith)
