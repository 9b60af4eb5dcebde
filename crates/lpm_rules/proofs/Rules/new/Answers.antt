use Rattle.std.proofs.Common.{arith, ◌≡◌, ap, length}
use Rattle.lpm_rules.proofs.Views.{none_at}
use Rattle.lpm_rules.proofs.LengthMaps.{sound_empty}
use Rattle.lpm_rules.proofs.Rules.new.Goals as goal

pub returns : goal.returns
returns g c =
    let long : length c.from_fn.result ≡ 33 = c.from_fn.ensures.items.long in
    ap (λ m. record { rules = m; max = c.args.max }) (none_at c.from_fn.result (λ i d h.
    let z = c.from_fn.ensures.items.at i d (omega (arith, h, long)) in
    assumption z))

pub invariant_of-result : goal.invariant_of-result
invariant_of-result g c =
    let long : length c.from_fn.result ≡ 33 = c.from_fn.ensures.items.long in
    sound_empty g.row.FIRST g.row.SECOND c.from_fn.result c.requires long (λ i d h.
    let z = c.from_fn.ensures.items.at i d (omega (arith, h, long)) in
    assumption z)
