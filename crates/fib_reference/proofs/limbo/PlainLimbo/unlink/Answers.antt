use Rattle.std.proofs.Common.{reverse, subst, sym, ap, ◌≡◌}
use Rattle.fib_reference.specs.Accounts.{events_of}
use Rattle.qsbr.specs.Intervals.{IsTidy}
use Rattle.fib_model.specs.Textbook.{by_reports}
use Rattle.fib_model.proofs.Runs.{tidy_unlinked}
use Rattle.fib_reference.proofs.Events.{tidy_pushed}
use Rattle.fib_reference.proofs.limbo.PlainLimbo.unlink.Goals as goal

pub make_room-requires-clause-sound : goal.make_room-requires-clause-sound
make_room-requires-clause-sound c =
    tidy_pushed c.args.config.now.workers c.args.self.now.events.items _ c.push.new.self.items c.in_ok-push.ensures.items
    (tidy_unlinked c.args.config.now.workers (events_of c.args.self.now) c.requires.sound)

pub returns-clause-sound : goal.returns-clause-sound
returns-clause-sound c =
    let tidy = tidy_pushed c.args.config.now.workers c.args.self.now.events.items _ c.push.new.self.items c.in_ok-push.ensures.items
    (tidy_unlinked c.args.config.now.workers (events_of c.args.self.now) c.requires.sound) in
    let same : c.make_room.new.self.events.items ≡ c.push.new.self.items = ap (λ v. v.items) c.make_room.ensures.events in
    subst (λ l. IsTidy by_reports c.args.config.now.workers (reverse l)) (sym same) tidy
