use Rattle.std.proofs.Common.{arith, ap, sym, ◌∙◌, ◌+◌, subst}
use Rattle.std.proofs.lemmas.List.{get_or_read}
use Rattle.audit.specs.Index.{AreEventsUpTo}
use Rattle.audit.proofs.Indexes.{events_none, events_same, events_more}
use Rattle.audit.proofs.events.events_in_order.Goals as goal
use Rattle.audit.proofs.events.events_in_order.Goals.{in-Some+in_ok-push, in_default}

pub loop-i-init : goal.loop-i-init
loop-i-init g c = rw c.new-events.ensures.items (events_none g.row.FIRST g.row.SECOND c.args.history.now c.args.len)

pub loop-i-preserved : goal.loop-i-preserved
loop-i-preserved g c =
    let at = get_or_read c.args.history.now c.loop-i.i c.index-history-i.result (omega arith) c.index-history-i.is in
    elim c.match-event_of.branch [
      | in-Some+in_ok-push w ↦
          subst (AreEventsUpTo c.args.history.now c.args.len (c.loop-i.i + 1))
          (sym (ap (λ v. v.items) w.events-is ∙ w.in_ok-push.ensures.items))
          (events_more g.row.FIRST g.row.SECOND c.args.history.now c.args.len c.loop-i.i c.loop-i.events.items c.index-history-i.result (omega arith) at
          c.event_of.ensures.network c.loop-i.invariant w.in-Some.event w.in-Some.ensures.event)
      | in_default w ↦
          subst (AreEventsUpTo c.args.history.now c.args.len (c.loop-i.i + 1)) (sym (ap (λ v. v.items) w.events-is))
          (events_same g.row.FIRST g.row.SECOND c.args.history.now c.args.len c.loop-i.i c.loop-i.events.items c.index-history-i.result (omega arith) at
          c.event_of.ensures.network c.loop-i.invariant w.in_default.ensures.event)
    ]
