use Rattle.std.proofs.Common.{arith, ap, ◌∙◌, refl}
use Rattle.std.specs.FinMap as map
use Rattle.lpm_rules.proofs.Views.{get_at}
use Rattle.lpm_rules.proofs.Rules.of_length.Goals as goal

pub returns : goal.returns
returns g c = λ bits.
    let lengths = c.self.invariant.lengths in
    get_at c.self.inside.lengths (record { bits = bits; len = c.args.len }) bits c.args.len _ refl refl (omega arith)
    ∙ ap (λ m. map.get m.rules (record { bits = bits; len = c.args.len })) c.self.view_is
