use Rattle.std.proofs.Common.{arith, ◌+◌, ◌-◌}
use Rattle.std.proofs.lemmas.Nat.{one_shl, shr_below}
use Rattle.lpm_update.proofs.Places.{deep_high, block_low}
use Rattle.lpm_update.proofs.link_group.LinkGroup.of_addition.Goals as goal

pub returns-clause-linking : goal.returns-clause-linking
returns-clause-linking g c = λ h t last fresh.
    let f = g.row.FIRST in
    let s = g.row.SECOND in
    let p = c.args.prefix.now in
    let A = f + s in
    let shape = c.bits-bits.ensures.shape in
    let network = c.bits-bits.ensures.network in
    let low = block_low s p.bits in
    rw (c.first_index.ensures.value, c.from-from.ensures, c.bits-bits.ensures.value, c.len-len.ensures.value, one_shl (A - p.len) 64 (omega (arith, shape.2)))
    (record {
      block = shr_below p.bits f s network.1;
      low = low;
      range = omega arith;
      high = deep_high f s p network h;
      entry = ((let v = c.number-number.ensures.value in let b = c.number-number.ensures.bound in omega (arith, v, b)), network.0);
      last = tt;
      group = fresh.small;
      room = fresh.room;
      free = λ _. fresh.free;
      old = λ _. last;
      filled = λ _ r none. absurd (omega (arith, none));
    })
