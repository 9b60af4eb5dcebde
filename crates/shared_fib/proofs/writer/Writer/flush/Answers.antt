use Rattle.std.proofs.Common.{rules}
use Rattle.shared_fib.proofs.CommandSteps.{flushed}
use Rattle.shared_fib.proofs.writer.Writer.flush.Goals as goal

pub invariant_of-self : goal.invariant_of-self
invariant_of-self g c =
    let ran = c.flush_rules-flushed in
    let m = c.new-memory in
    let some = flushed g.row.FIRST g.row.SECOND c.self.inside.control ran.new.control c.self.inside.seat.view m.result ran.new.memory
    m.ensures.did c.self.invariant.rests c.self.inside.seat.table m.ensures.table m.ensures.view ran.ensures.config
    c.into_seat.ensures.lawful c.into_seat.ensures.token c.args.self.now c.args.table.now c.self.view_is c.requires.own
    ran.result ran.ensures.flushes in
    let name = some.1.name in
    let seat = some.1.at_seat c.seat-2-1.given.0.table c.seat-2-1.given.0.view (search (rules, c.seat-2-1, name, m.ensures, c.into_seat.ensures))
    (search (rules, c.seat-2-1, name, m.ensures, c.into_seat.ensures)) in
    seat.0

pub returns : goal.returns
returns g c =
    let ran = c.flush_rules-flushed in
    let m = c.new-memory in
    let some = flushed g.row.FIRST g.row.SECOND c.self.inside.control ran.new.control c.self.inside.seat.view m.result ran.new.memory
    m.ensures.did c.self.invariant.rests c.self.inside.seat.table m.ensures.table m.ensures.view ran.ensures.config
    c.into_seat.ensures.lawful c.into_seat.ensures.token c.args.self.now c.args.table.now c.self.view_is c.requires.own
    ran.result ran.ensures.flushes in
    let name = some.1.name in
    let seat = some.1.at_seat c.seat-2-1.given.0.table c.seat-2-1.given.0.view (search (rules, c.seat-2-1, name, m.ensures, c.into_seat.ensures))
    (search (rules, c.seat-2-1, name, m.ensures, c.into_seat.ensures)) in
    let led = seat.1 in
    record { flushes = led.outcome; checked = (some.0, led.checked); later = led.later; own = led.own; config = led.config }
