use Rattle.std.proofs.Common.{ℕ, arith, refl, ap, sym, ◌∙◌, ◌+◌, cond}
use Rattle.fib_reference.proofs.Events.{counted}
use Rattle.fib_reference.proofs.intervals.unlinkings_up_to.Goals as goal
use Rattle.fib_reference.proofs.intervals.unlinkings_up_to.Goals.{then-is_unlinking_before, else-is_unlinking_before}

pub loop-at-preserved : goal.loop-at-preserved
loop-at-preserved c =
    let more = counted c.args.events.now c.loop-at.at c.args.place c.loop-at.count c.if-is_unlinking_before.count _ _ c.is_unlinking_before.result (omega arith) refl c.is_unlinking_before.ensures c.loop-at.invariant.counted in
    elim c.if-is_unlinking_before.branch [
      | then-is_unlinking_before w ↦ record {
        counted = more (w.count-is ∙ ap (λ b. c.loop-at.count + cond b 1 0) (sym w.if-is_unlinking_before.true));
        bound = omega arith;
      }
      | else-is_unlinking_before w ↦ record {
        counted = more (let none = ap {B = ℕ} (λ b. cond b 1 0) w.if-is_unlinking_before.false in let same = w.count-is in omega (arith, none, same));
        bound = omega arith;
      }
    ]
