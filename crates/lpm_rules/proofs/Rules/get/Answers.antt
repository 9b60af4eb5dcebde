use Rattle.std.proofs.Common.{arith, ap, ◌∙◌}
use Rattle.std.specs.FinMap as map
use Rattle.lpm_rules.proofs.Views.{get_at}
use Rattle.lpm_rules.proofs.Rules.get.Goals as goal

pub returns : goal.returns
returns g c =
    let lengths = c.self.invariant.lengths in
    let bound = c.len.ensures.bound in
    let shape = c.bits.ensures.shape in
    c.copied.ensures ∙ c.get.ensures.value
    ∙ get_at c.self.inside.lengths c.args.prefix.now c.bits.result c.len.result _ c.bits.ensures.value c.len.ensures.value (omega arith)
    ∙ ap (λ m. map.get m.rules c.args.prefix.now) c.self.view_is
