use Rattle.std.proofs.Common.{sym, ap, ◌∙◌}
use Rattle.shared_fib.specs.RunningTable.{Identity}
use Rattle.shared_fib.proofs.table.SharedTable.has_widths.Goals as goal

pub returns : goal.returns
returns g c =
    let is = sym c.self.view_is in
    (ap (λ (id : Identity). id.initial.first) is ∙ c.self.invariant.first_bits, ap (λ (id : Identity). id.initial.second) is ∙ c.self.invariant.second_bits)
