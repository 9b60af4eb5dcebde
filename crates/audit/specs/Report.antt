-- Meaning: the text of a report (this project's report: one line for each number).
use Rattle.std.specs.Prelude.{ℕ, List, ◌++◌, codes, decimal}
use Rattle.audit.specs.declared.report.TableCounts.{TableCounts}
use Rattle.audit.specs.declared.report.StormReport.{StormReport}

-- a name, a space, a number in decimal, and a line end
abbrev pub number_line : List ℕ → ℕ → List ℕ
number_line name n = name ++ codes " " ++ decimal n ++ codes "\n"

-- how many groups are in use, in limbo and free
abbrev pub group_lines : TableCounts → List ℕ
group_lines report =
    number_line (codes "in use") report.in_use
    ++ number_line (codes "limbo") report.limbo
    ++ number_line (codes "free") report.free

-- all counts of the table
abbrev pub report_lines : TableCounts → List ℕ
report_lines report =
    number_line (codes "rules") report.rules
    ++ number_line (codes "versions") report.versions
    ++ group_lines report
    ++ number_line (codes "token") report.token

-- what came of a storm, and then the counts of its table
abbrev pub storm_lines : StormReport → List ℕ
storm_lines storm =
    number_line (codes "answers") storm.answers
    ++ number_line (codes "refused") storm.refused
    ++ number_line (codes "wrong") storm.wrong
    ++ report_lines storm.table
