use Rattle.fib_model.specs.State.{Unlinks}
use Rattle.fib_model.specs.Textbook.{textbook}
use Rattle.fib_reference.specs.Accounts.{IsSound, events_of}
use Rattle.fib_reference.proofs.limbo.PlainLimbo.unlink_all.Given as goal

-- so many groups are unlinked
abbrev pub invariant-loop-unlinked : goal.invariant-loop-unlinked
invariant-loop-unlinked l = record {
  sound : IsSound l.config l.self;
  unlinked : Unlinks (textbook l.config) l.config l._unlinked (events_of l.fn.self) l.fn.self.places.items (events_of l.self) l.self.places.items;
}
