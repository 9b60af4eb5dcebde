use Rattle.std.proofs.Common.{ap, sym, ◌∙◌, subst, not, drop}
use Rattle.std.specs.Prelude.{count_by}
use Rattle.audit.specs.Wrong.{AreWrong, version_of}
use Rattle.audit.proofs.Spans.{wrong_marks}
use Rattle.audit.proofs.past.Past.count_wrong.Goals as goal

pub returns : goal.returns
returns g c =
    let count = c.count_false.ensures ∙ ap (λ ms. count_by (λ m. not m) ms) c.deref.ensures.value in
    let R = version_of c.args.self.now c.args.start in
    let changes = drop c.args.start c.args.self.now in
    subst (AreWrong R changes c.args.answers.now) (sym count)
    (wrong_marks g.row.FIRST g.row.SECOND R changes c.args.answers.now c.in_ok-marks.marks.items c.in_ok-marks.ensures)
