use Rattle.std.proofs.Common.{arith, ◌≡◌, ℕ, ◌+◌, ◌-◌, ◌*◌, ◌%◌, ◌^◌, sym, subst}
use Rattle.lpm_rules.specs.Deep.{IsBlockOf, IsLastBefore}
use Rattle.lpm_rules.proofs.Deep.{end_fits, end_starts, last_none, last_some}
use Rattle.lpm_rules.proofs.Rules.last_block.Goals as goal

pub overflow_cast-last-2 : goal.overflow_cast-last-2
overflow_cast-last-2 g c =
    let fits = end_fits g.row.FIRST g.row.SECOND c.args.end (omega arith) c.requires.end in
    omega (arith, fits)

pub returns-in_err-bits : goal.returns-in_err-bits
returns-in_err-bits g c =
    let second = g.row.SECOND in
    let end = c.args.end in
    let last : ℕ = end * 2 ^ second % 18446744073709551616 - 1 in
    let ends : last + 1 ≡ end * 2 ^ second = end_starts second end (omega arith) (end_fits g.row.FIRST second end (omega arith) c.requires.end) in
    subst (IsLastBefore (IsBlockOf second c.args.self.now.rules c.args.len) end) (sym c.from_residual.ensures)
    (last_none c.args.self.now.rules c.of_length-length.result.now second end c.args.len last c.range.result c.of_length-length.ensures ends (c.range.ensures.in_range tt) c.in_err-bits.ensures.steps.0)

pub returns : goal.returns
returns g c =
    let second = g.row.SECOND in
    let end = c.args.end in
    let last : ℕ = end * 2 ^ second % 18446744073709551616 - 1 in
    let ends : last + 1 ≡ end * 2 ^ second = end_starts second end (omega arith) (end_fits g.row.FIRST second end (omega arith) c.requires.end) in
    last_some c.args.self.now.rules c.of_length-length.result.now second end c.args.len last c.range.result c.of_length-length.ensures ends (c.range.ensures.in_range tt)
    c.next_back.new.self c.in_ok-bits.bits.now c.in_ok-bits.field-0-1.now c.in_ok-bits.ensures.steps
