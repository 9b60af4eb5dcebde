use Rattle.std.proofs.Common.{◌-◌, ◌≡◌, ◌^◌, ◌≤◌}
use Rattle.lpm_update.specs.Kinds.{AllMiss}
use Rattle.lpm_update.proofs.flush.Flush.flush_next.Given as goal

-- so far all words are misses, and nothing was stored
abbrev pub invariant-loop-self : goal.invariant-loop-self
invariant-loop-self g l = record {
  same : l.cells ≡ l.fn.cells;
  low : l.fn.self.next ≤ l.self.next;
  within : l.self.next ≤ 2 ^ g.row.FIRST;
  misses : AllMiss (g.C.Cells.words l.fn.cells).firsts l.fn.self.next l.self.next;
}

abbrev pub decreases-loop-self : goal.decreases-loop-self
decreases-loop-self g l = 2 ^ g.row.FIRST - l.self.next
