use Rattle.std.proofs.Common.{subst}
use Rattle.lpm_update.specs.Represents.{AddFits}
use Rattle.lpm_update.proofs.Begins.{begun_range, adds_range, begun_link, adds_link}
use Rattle.lpm_update.proofs.update.Update.add.Goals as goal

pub returns-in-None-clause-begun : goal.returns-in-None-clause-begun
returns-in-None-clause-begun g c = λ R W represents fits.
    let f = g.row.FIRST in
    let s = g.row.SECOND in
    let p = c.args.prefix.now in
    let deep = subst (AddFits f s R p W) c.in-None.is fits in
    let made = c.of_addition-in-None.ensures in (
      begun_range f s R p c.of_addition-in-None.result W c.bits-bits.ensures.network represents made.range deep,
      adds_range f s R p c.args.hop c.of_addition-in-None.result c.bits-bits.ensures.network made.range made.rewrite deep,
    )

pub returns-in-Some-clause-begun : goal.returns-in-Some-clause-begun
returns-in-Some-clause-begun g c = λ R W represents fits.
    let f = g.row.FIRST in
    let s = g.row.SECOND in
    let p = c.args.prefix.now in
    let fresh = subst (AddFits f s R p W) c.in-Some.is fits in
    let made = c.of_addition.ensures in (
      begun_link f s R p c.args.hop c.in-Some.group c.of_addition.result W c.bits-bits.ensures.network represents made.value made.linking fresh,
      adds_link f s R p c.args.hop c.in-Some.group c.of_addition.result c.bits-bits.ensures.network made.value fresh.0,
    )
