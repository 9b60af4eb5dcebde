use Rattle.std.proofs.Common.{List, drop, subst}
use Rattle.std.specs.Prelude.{IfOk}
use Rattle.lpm_rules.specs.declared.Change.{Change}
use Rattle.audit.specs.Wrong.{AreWrong, version_of}
use Rattle.audit.proofs.wrong_answers.wrong.Goals as goal

pub returns : goal.returns
returns g c =
    subst (λ (h : List (Change g.row.FIRST g.row.SECOND)). IfOk c.count_wrong.result (AreWrong (version_of h 0) (drop 0 h) c.args.answers.now))
    c.in_ok-past.ensures c.count_wrong.ensures
