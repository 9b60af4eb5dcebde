use Rattle.std.proofs.Common.{suc, subst, ◌+◌, ◌≡◌, arith}
use Rattle.fib_model.specs.State.{Unlinks}
use Rattle.fib_model.specs.Textbook.{textbook}
use Rattle.fib_reference.specs.Accounts.{events_of}
use Rattle.fib_reference.proofs.limbo.PlainLimbo.unlink_all.Goals as goal

pub loop-unlinked-preserved : goal.loop-unlinked-preserved
loop-unlinked-preserved c =
    let n = c.loop-unlinked._unlinked in
    let next : suc n ≡ n + 1 = omega arith in
    let before = c.loop-unlinked.self in
    record {
      sound = c.in_ok-unlink.ensures.sound;
      unlinked = subst (λ k. Unlinks (textbook c.args.config.now) c.args.config.now k (events_of c.args.self.now) c.args.self.now.places.items (events_of c.unlink.new.self) c.unlink.new.self.places.items) next
          (events_of before, before.places.items, c.loop-unlinked.invariant.unlinked, c.in_ok-unlink.ensures.unlinked);
    }
