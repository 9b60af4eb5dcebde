use Rattle.std.proofs.Common.{arith, rules, refl, sym, subst, ◌≤◌, [], length}
use Rattle.std.proofs.lemmas.List.{take_all}
use Rattle.fib_reference.specs.Accounts.{state_of}
use Rattle.fib_model.specs.Outcomes.{Runs, log_after}
use Rattle.fib_model.specs.Textbook.{by_intervals, initial_by_events}
use Rattle.fib_model.proofs.Runs.{logged_more}
use Rattle.fib_reference.proofs.accounts.account_of.Goals as goal

pub loop-order-preserved : goal.loop-order-preserved
loop-order-preserved g c =
    let f = g.row.FIRST in
    let s = g.row.SECOND in
    let limits = c.args.config.now in
    let before = c.loop-order.invariant in
    record {
      sound = c.in_ok-outcome.ensures.sound;
      each = search rules;
      runs = subst (λ log. Runs (by_intervals limits) f s limits initial_by_events log (state_of c.run.new.self))
          (sym (logged_more f s c.args.orders.now c.loop-order.order-index c.loop-order.outcomes.items c.push.new.self.items c.order-item.result c.order-item.result c.in_ok-outcome.outcome (omega arith) before.each c.order-item.is c.in_ok-push.ensures.items))
          (state_of c.loop-order.plain, before.runs, c.in_ok-outcome.ensures.does);
    }

pub returns : goal.returns
returns g c =
    let limits = c.args.config.now in
    let done = c.loop-order.invariant in
    let size : length c.args.orders.now ≤ c.loop-order.order-index = search rules in
    record {
      state = state_of c.loop-order.plain;
      runs = subst (λ orders. Runs (by_intervals limits) g.row.FIRST g.row.SECOND limits initial_by_events (log_after [] orders c.loop-order.outcomes.items) (state_of c.loop-order.plain))
          (take_all c.loop-order.order-index c.args.orders.now size) done.runs;
      each = omega (arith, size);
      rules = c.len.ensures.value;
      versions = refl;
      in_use = c.deep_blocks.ensures;
      limbo = search rules;
      free = c.free.ensures;
      token = c.token.ensures.value;
    }
