use Rattle.std.proofs.Common.{◌≡◌, ◌-◌, ◌∙◌, ap, length, min}
use Rattle.audit.proofs.Spans.{explained_behind}
use Rattle.audit.proofs.past.Past.explains.Goals as goal

pub returns : goal.returns
returns g c =
    let history = c.args.self.now in
    let hi = c.args.answer.now.hi in
    let last : c.min-last.result ≡ min hi (length history - c.args.start) =
    c.min-last.ensures ∙ ap (λ h. min hi (length h - c.args.start)) c.history.ensures in
    explained_behind g.row.FIRST g.row.SECOND history c.args.start c.args.addr c.args.answer.now c.min-last.result c.some_gives.result
    c.requires.start last c.some_gives.ensures
