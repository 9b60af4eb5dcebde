use Rattle.std.proofs.Common.{rules}
use Rattle.shared_fib.proofs.CommandSteps.{freed}
use Rattle.shared_fib.proofs.writer.Writer.reclaim.Goals as goal

pub invariant_of-self : goal.invariant_of-self
invariant_of-self g c =
    let ran = c.reclaim_groups-reclaimed in
    let m = c.new-memory in
    let came = freed g.row.FIRST g.row.SECOND c.self.inside.control ran.new.control c.self.inside.seat.view m.result ran.new.memory
    m.ensures.did c.self.invariant.rests c.self.inside.seat.table m.ensures.table m.ensures.view ran.ensures.config
    c.into_seat.ensures.lawful c.into_seat.ensures.token c.args.self.now c.args.table.now c.self.view_is c.requires.own
    c.args.max ran.result ran.ensures.frees in
    let name = came.name in
    let seat = came.at_seat c.seat-2-1.given.0.table c.seat-2-1.given.0.view (search (rules, c.seat-2-1, name, m.ensures, c.into_seat.ensures))
    (search (rules, c.seat-2-1, name, m.ensures, c.into_seat.ensures)) in
    seat.0

pub returns : goal.returns
returns g c =
    let ran = c.reclaim_groups-reclaimed in
    let m = c.new-memory in
    let came = freed g.row.FIRST g.row.SECOND c.self.inside.control ran.new.control c.self.inside.seat.view m.result ran.new.memory
    m.ensures.did c.self.invariant.rests c.self.inside.seat.table m.ensures.table m.ensures.view ran.ensures.config
    c.into_seat.ensures.lawful c.into_seat.ensures.token c.args.self.now c.args.table.now c.self.view_is c.requires.own
    c.args.max ran.result ran.ensures.frees in
    let name = came.name in
    let seat = came.at_seat c.seat-2-1.given.0.table c.seat-2-1.given.0.view (search (rules, c.seat-2-1, name, m.ensures, c.into_seat.ensures))
    (search (rules, c.seat-2-1, name, m.ensures, c.into_seat.ensures)) in
    let led = seat.1 in
    record { frees = led.outcome; checked = led.checked; later = led.later; own = led.own; config = led.config }
