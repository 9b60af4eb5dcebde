use Rattle.std.proofs.Common.{arith, sym, subst, ◌∙◌, [], take}
use Rattle.std.proofs.lemmas.List.{take_all}
use Rattle.std.proofs.Math.ListN.{length-set}
use Rattle.lpm_limits.specs.declared.config.Config.{Config}
use Rattle.lpm_limits.specs.Limits.{IsConfig}
use Rattle.fib_model.specs.Counters.{by_counters}
use Rattle.fib_model.specs.Outcomes.{Runs, Does, log_after}
use Rattle.fib.proofs.Replays.{log_next, told}
use Rattle.fib.proofs.fib.Fib.execute_all.Goals as goal

pub loop-index-preserved : goal.loop-index-preserved
loop-index-preserved g c =
    let f = g.row.FIRST in
    let s = g.row.SECOND in
    let known = c.loop-index.invariant in
    let i = c.loop-index.index in
    let order = c.index-orders-index.result in
    let outcome = c.execute.result in
    record {
      done = subst (λ log. Runs by_counters f s c.args.self.now.config c.args.self.now.table log c.execute.new.self.table)
          (sym (log_next f s c.args.orders.now c.loop-index.outcomes.items i order outcome c.loop-index-test.true c.index-orders-index.is known.room))
          (c.loop-index.self.table, known.done, subst (λ (k : Config). Does by_counters f s k c.loop-index.self.table order outcome c.execute.new.self.table) known.config c.execute.ensures.does);
      room = length-set c.loop-index.outcomes.items i outcome ∙ known.room;
      config = c.execute.ensures.config ∙ known.config;
    }

pub returns-clause-textbook : goal.returns-clause-textbook
returns-clause-textbook g c = λ log before.
    let f = g.row.FIRST in
    let s = g.row.SECOND in
    let known = c.loop-index.invariant in
    let orders = c.args.orders.now in
    let outcomes = c.loop-index.outcomes.items in
    let end = c.loop-index-test.false in
    let all = subst (λ os. Runs by_counters f s c.args.self.now.config c.args.self.now.table (log_after [] orders os) c.loop-index.self.table) (take_all c.loop-index.index outcomes (omega (arith, end, known.room)))
    (subst (λ cs. Runs by_counters f s c.args.self.now.config c.args.self.now.table (log_after [] cs (take c.loop-index.index outcomes)) c.loop-index.self.table) (take_all c.loop-index.index orders end) known.done) in
    told f s c.args.self.now.config c.args.self.now.table c.loop-index.self.table log orders outcomes (subst IsConfig c.config-config.ensures.value c.config-config.ensures.limits) before all
