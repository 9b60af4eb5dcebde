use Rattle.std.proofs.Common.{arith, ◌≡◌, ℕ, List, length, get_or, subst, sym, ap, ◌∙◌}
use Rattle.fib_model.specs.declared.orders.Order.{Order}
use Rattle.fib_model.specs.declared.orders.Outcome.{Outcome}
use Rattle.fib_model.specs.Outcomes.{Does}
use Rattle.storm.specs.Writer.{HasMade, IsForWriter, by_own_steps}
use Rattle.storm.proofs.Logs.{made_next}
use Rattle.storm.proofs.writer.record.Goals as goal

pub returns-clause-made : goal.returns-clause-made
returns-clause-made g c =
    let orders = c.args.updates.now.orders.now in
    let outcomes = c.args.recorder.now.outcomes.items in
    let order = c.index-updates-index.result in
    let does : Does (by_own_steps c.args.updates.now.table.now.initial) g.row.FIRST g.row.SECOND c.args.recorder.now.writer.config
    c.args.recorder.now.writer.table order c.execute-outcome.result c.execute-outcome.new.writer.table =
    subst (λ (k : Order g.row.FIRST g.row.SECOND). Does (by_own_steps c.args.updates.now.table.now.initial) g.row.FIRST g.row.SECOND
    c.args.recorder.now.writer.config c.args.recorder.now.writer.table k c.execute-outcome.result c.execute-outcome.new.writer.table)
    (sym c.index-updates-index.is) c.execute-outcome.ensures.does in
    let here : length outcomes ≡ c.args.index = omega (arith, c.requires.next) in
    subst (λ (os : List Outcome). HasMade c.args.updates.now.table.now c.args.updates.now.limits orders os c.execute-outcome.new.writer)
    (sym c.note.ensures.items)
    (made_next g.row.FIRST g.row.SECOND c.args.updates.now.table.now c.args.updates.now.limits orders outcomes order c.execute-outcome.result
    c.args.recorder.now.writer c.execute-outcome.new.writer (omega (arith, here, c.requires.index))
    (c.index-updates-index.is ∙ ap (λ (n : ℕ). get_or orders n order) (sym here))
    c.requires.made does c.execute-outcome.ensures.own c.execute-outcome.ensures.config
    (subst IsForWriter (sym c.index-updates-index.is) (c.requires.orders c.args.index order c.requires.index)) c.table_rests.ensures)
