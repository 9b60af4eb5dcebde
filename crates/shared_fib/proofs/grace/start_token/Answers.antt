use Rattle.std.proofs.Common.{◌≡◌, ◌∙◌, ap, rules, sym}
use Rattle.shared_words.specs.Layout.{initial_state_of}
use Rattle.shared_fib.specs.LentSeats.{LentSeat}
use Rattle.shared_fib.proofs.SeatMemory.{either, on_ok_then}
use Rattle.shared_fib.proofs.Tokens.{starts}
use Rattle.shared_fib.proofs.grace.start_token.Goals as goal

pub returns : goal.returns
returns g c =
    let v = c.args.seat.now.view in
    let m = c.new-memory in
    let ran = c.start_synchronize-came in
    let came = on_ok_then ran.result ran.ensures.starts (λ starts.
    starts (initial_state_of v.initial) v.writer_steps m.ensures.did c.requires.ready.rests) in
    let name : ran.new.memory.name ≡ m.result.name = either ran.result came ran.ensures.unchanged (λ h. h.2.0.name)
    (ap (λ (l : LentSeat). l.name)) in
    let knows : ran.new.memory.view ≡ c.seat-1.given.0.view = search (rules, c.seat-1, name, m.ensures, c.into_seat.ensures) in
    let at : ran.new.memory.table ≡ c.seat-1.given.0.table = search (rules, c.seat-1, name, m.ensures, c.into_seat.ensures) in
    let led = starts g.row.FIRST g.row.SECOND c.args.control.now c.args.control.now v _ m.result ran.new.memory m.ensures.view knows
    c.into_seat.ensures.token c.into_seat.ensures.updates ran.result ran.ensures.exhausted came ran.ensures.unchanged in
    record {
      exhausted = led.exhausted;
      started = led.started;
      waits = led.waits;
      untouched = led.untouched;
      seat = sym at ∙ led.table ∙ m.ensures.table;
    }
