use Rattle.std.proofs.Common.{◌≡◌, drop}
use Rattle.fib_reference.proofs.limbo.PlainLimbo.drop_front.Given as goal

-- so many are gone
abbrev pub invariant-loop-taken : goal.invariant-loop-taken
invariant-loop-taken l = record {
  limbo : l.self.places.items ≡ drop l._taken l.fn.self.places.items;
  events : l.self.events ≡ l.fn.self.events;
}
