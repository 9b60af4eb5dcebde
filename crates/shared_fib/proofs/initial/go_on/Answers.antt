use Rattle.std.proofs.Common.{◌≡◌, [], ap, sym, subst, ◌∙◌, lit<}
use Rattle.lpm_writer.specs.declared.control.ControlState.{ControlState}
use Rattle.lpm_writer.specs.Rest.{IsResting}
use Rattle.shared_words.specs.Layout.{InitialData, initial_state_of}
use Rattle.shared_fib.specs.Passes.{IsFullBench}
use Rattle.shared_fib.specs.RunningTable.{Identity, initial_data_of, initial_writer}
use Rattle.shared_fib.proofs.Openings.{ready, opens}
use Rattle.shared_fib.proofs.initial.go_on.Goals as goal

pub new-requires : goal.new-requires
new-requires g c =
    let words = c.in_ok-words.ensures in
    let own = words.own in (
      lit< tt,
      (
        lit< tt,
        record {
          shape = c.requires.shape;
          first_bits = ap (λ (o : InitialData). o.first) words.initial;
          second_bits = ap (λ (o : InitialData). o.second) words.initial;
          firsts = own.firsts;
          seconds = own.seconds;
          workers = own.workers;
          words = own.words;
          low = own.low;
        },
      ),
    )

pub new-requires-2 : goal.new-requires-2
new-requires-2 g c =
    let f = g.row.FIRST in
    let s = g.row.SECOND in
    let l = c.args.initial in
    let o : InitialData = initial_data_of f s l in
    let words = c.in_ok-words in
    let bench = c.in_ok-bench.ensures in
    let z = c.initial_control-control.result in
    let rests = subst (λ (y : ControlState f s). IsResting f s (initial_state_of o) [] y.config y.rules y.pool y.versions)
    (sym c.initial_control-control.ensures) c.requires.rests in (
      lit< tt,
      (
        lit< tt,
        ready f s l words.words words.seat.table words.seat.view c.full.new.seat.view bench.view.0
            words.ensures.initial words.ensures.own words.ensures.view bench.view.1 z rests c.requires.token,
      ),
    )

pub returns-clause-bench : goal.returns-clause-bench
returns-clause-bench g c =
    let words = c.in_ok-words.ensures in
    let same : record { words = c.in_ok-words.seat.table; initial = c.in_ok-words.seat.view.initial } ≡ c.new.result =
    (λ i. record { words = words.own.same i; initial = words.own.initial_is i }) ∙ sym c.new.ensures in
    subst (λ (id : Identity). IsFullBench id c.in_ok-bench.bench) same c.in_ok-bench.ensures.full

pub returns-clause-opened : goal.returns-clause-opened
returns-clause-opened g c =
    let f = g.row.FIRST in
    let s = g.row.SECOND in
    let l = c.args.initial in
    let words = c.in_ok-words in
    let bench = c.in_ok-bench.ensures in
    let z = c.initial_control-control.result in
    let first = c.initial_control-control.ensures in
    let none = ap (λ (y : ControlState f s). y.pool.queue.items) first ∙ c.requires.none in
    let opened = opens f s l words.words words.seat.table words.seat.view c.full.new.seat.view bench.view.0
    words.ensures.initial words.ensures.own words.ensures.view bench.view.1
    c.full.new.seat.table z bench.own none (ap (λ (y : ControlState f s). y.versions) first) in
    c.new-2.ensures ∙ opened
    ∙ (λ i. initial_writer (sym c.new.ensures i) (ap (λ (y : ControlState f s). y.config) first i)
    (ap (λ (y : ControlState f s). y.rules.rules) first i))
