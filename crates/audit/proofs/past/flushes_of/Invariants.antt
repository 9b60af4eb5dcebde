use Rattle.audit.specs.Index.{IsLastFlush, AreFlushes}
use Rattle.audit.proofs.past.flushes_of.Given as goal

-- the last flush up to this version, and to each before it
abbrev pub invariant-loop-i : goal.invariant-loop-i
invariant-loop-i g l = IsLastFlush l.history l.i l.last × AreFlushes l.history l.i l.flushed.items
