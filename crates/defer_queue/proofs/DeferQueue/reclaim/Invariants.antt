use Rattle.std.proofs.Common.{◌≡◌, ◌-◌, ◌≤◌, drop}
use Rattle.defer_queue.specs.Reclaims.{FreesFront}
use Rattle.defer_queue.proofs.DeferQueue.reclaim.Given as goal

abbrev pub invariant-loop-freed : goal.invariant-loop-freed
invariant-loop-freed g l = record {
  at_most : l.freed ≤ l.max;
  front : FreesFront (λ s item. g.G.Grace.checks s item.1) (λ s item. g.G.Grace.frees s item.0) l.freed l.initial.self.items l.initial.grace l.self.items l.grace;
  capacity : l.self.capacity ≡ l.initial.self.capacity;
  left : l.self.items ≡ drop l.freed l.initial.self.items;
  ready : g.G.Grace.ready l.grace l.self.items;
  lent : g.G.Grace.lent l.grace ≡ g.G.Grace.lent l.initial.grace;
}

abbrev pub decreases-loop-freed : goal.decreases-loop-freed
decreases-loop-freed g l = l.max - l.freed
