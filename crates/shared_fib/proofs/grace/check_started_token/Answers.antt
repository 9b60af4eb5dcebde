use Rattle.std.proofs.Common.{arith, ◌≡◌, ◌∙◌, ap, rules, sym}
use Rattle.lpm_trace.proofs.Versions.{token_is}
use Rattle.shared_words.specs.Layout.{initial_state_of}
use Rattle.shared_fib.proofs.SeatMemory.{FixedPart}
use Rattle.shared_fib.proofs.Tokens.{checks_once, kept_by_check}
use Rattle.shared_fib.proofs.grace.check_started_token.Goals as goal

pub returns : goal.returns
returns g c =
    let v = c.args.seat.now.view in
    let m = c.new-memory in
    let ran = c.check_synchronize-came in
    let came = ran.ensures.checks (initial_state_of v.initial) v.writer_steps m.ensures.did c.requires.waits.waits in
    let still = kept_by_check v.initial m.result ran.new.memory v.writer_steps came.0 _ ran.result came.2 in
    let name : ran.new.memory.name ≡ m.result.name = ap (λ (k : FixedPart). k.0) still in
    let knows : ran.new.memory.view ≡ c.seat-1.given.0.view = search (rules, c.seat-1, name, m.ensures, c.into_seat.ensures) in
    let at : ran.new.memory.table ≡ c.seat-1.given.0.table = search (rules, c.seat-1, name, m.ensures, c.into_seat.ensures) in
    let led = checks_once g.row.FIRST g.row.SECOND c.args.control.now ran.new.control v _ m.result ran.new.memory m.ensures.view
    knows c.into_seat.ensures.token c.into_seat.ensures.updates ran.result still
    (omega (arith, c.requires.waits.waits.started, token_is (initial_state_of v.initial) v.writer_steps)) c.into_seat.ensures.lawful
    came ran.ensures.queued ran.ensures.same in
    record {
      checks = led.checks;
      token = led.token;
      checked = led.checked;
      same = ran.ensures.same;
      queued = led.queued;
      ready = led.ready;
      waits = led.waits;
      seat = sym at ∙ led.table ∙ m.ensures.table;
      view = led.view;
    }
