use Rattle.audit.specs.Index.{AreEventsUpTo}
use Rattle.audit.proofs.events.events_in_order.Given as goal

-- the events of the changes before this one
abbrev pub invariant-loop-i : goal.invariant-loop-i
invariant-loop-i g l = AreEventsUpTo l.history l.len l.i l.events.items
