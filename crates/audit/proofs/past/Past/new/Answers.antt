use Rattle.std.proofs.Common.{arith, ap, ◌∙◌, ◌+◌, length, length-append, [], ◌∷◌}
use Rattle.audit.proofs.Lists.{at_more}
use Rattle.audit.specs.Index.{AreEventsUpTo, AreOrdered}
use Rattle.audit.proofs.past.Past.new.Goals as goal

pub loop-len-preserved : goal.loop-len-preserved
loop-len-preserved g c =
    let history = c.args.history.now in
    let long = c.loop-len.invariant.0 in
    let items = c.in_ok-push.ensures.items in (
      ap (λ xs. length xs) items ∙ length-append c.loop-len.lengths.items (c.in_ok-events_of.field-0 ∷ []) ∙ ap (λ n. n + 1) long,
      at_more c.loop-len.len (λ n v. AreEventsUpTo history n (length history) v.items) _ _ c.in_ok-events_of.field-0 items long c.loop-len.invariant.1 c.in_ok-events_of.ensures.events,
      at_more c.loop-len.len (λ n v. AreOrdered v.items) _ _ c.in_ok-events_of.field-0 items long c.loop-len.invariant.2 c.in_ok-events_of.ensures.ordered,
    )

pub invariant_of-result : goal.invariant_of-result
invariant_of-result g c =
    let long = c.loop-len.invariant.0 in
    let events = c.loop-len.invariant.1 in
    let ordered = c.loop-len.invariant.2 in
    record {
      flushes = c.in_ok-flushed.ensures;
      long = omega (arith, long);
      events = λ n d lt. events n d (omega (arith, lt));
      ordered = λ n d lt. ordered n d (omega (arith, lt));
    }
