use Rattle.std.proofs.Common.{ap, ◌∙◌, rules}
use Rattle.fib_model.specs.Outcomes.{groups_in_use}
use Rattle.lpm_writer.proofs.Rests.{linked_resting}
use Rattle.fib.specs.Fib.{FibState}
use Rattle.fib.proofs.fib.Fib.counts.Goals as goal

pub returns-clause-in_use : goal.returns-clause-in_use
returns-clause-in_use g c =
    let f = g.row.FIRST in
    let s = g.row.SECOND in
    let l = c.self.inside.control in
    let known = c.self.invariant in
    c.counts.ensures.in_use ∙ linked_resting f s known.0 known.1 l.config l.rules l.pool l.versions known.2.rests ∙ ap (λ (y : FibState). groups_in_use f s y.table.rules) c.self.view_is

pub returns-clause-all : goal.returns-clause-all
returns-clause-all g c = search rules
