use Rattle.std.proofs.Common.{arith, ◌+◌, ◌-◌}
use Rattle.std.proofs.lemmas.Nat.{one_shl}
use Rattle.lpm_update.proofs.Places.{range_of}
use Rattle.lpm_update.proofs.rewrite_range.RewriteRange.of_addition.Goals as goal

pub returns-clause-range : goal.returns-clause-range
returns-clause-range g c =
    let f = g.row.FIRST in
    let s = g.row.SECOND in
    let shape = c.bits-bits.ensures.shape.2 in
    let p = c.args.prefix.now in
    let network = c.bits-bits.ensures.network in
    rw (c.from-from.ensures, c.bits-bits.ensures.value, c.len-depth.ensures.value, one_shl (f + s - p.len) 64 (omega arith))
    (range_of f s p _ network ((let v = c.number-number.ensures.value in let b = c.number-number.ensures.bound in omega (arith, v, b)), network.0) tt)
