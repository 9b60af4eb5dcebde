use Rattle.std.proofs.Common.{ap, ◌∙◌, rules}
use Rattle.fib_model.specs.Outcomes.{groups_in_use}
use Rattle.lpm_writer.proofs.Rests.{linked_resting}
use Rattle.shared_words.specs.Layout.{initial_state_of}
use Rattle.shared_fib.specs.RunningTable.{WriterState}
use Rattle.shared_fib.proofs.writer.Writer.counts.Goals as goal

pub returns-clause-in_use : goal.returns-clause-in_use
returns-clause-in_use g c =
    let f = g.row.FIRST in
    let s = g.row.SECOND in
    let l = c.self.inside.control in
    let v = c.self.inside.seat.view in
    c.counts.ensures.in_use
    ∙ linked_resting f s (initial_state_of v.initial) v.writer_steps l.config l.rules l.pool l.versions c.self.invariant.rests
    ∙ ap (λ (y : WriterState). groups_in_use f s y.table.rules) c.self.view_is

pub returns-clause-all : goal.returns-clause-all
returns-clause-all g c = search rules
