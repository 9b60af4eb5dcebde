use Rattle.std.proofs.Common.{◌≤◌, length, arith}
use Rattle.saxiko_c.proofs.Pieces.{all_found, as_many}
use Rattle.saxiko_c.proofs.bursts.find_all.Goals as goal

pub returns-clause-found : goal.returns-clause-found
returns-clause-found c =
    let burst = c.lookup_bulk in
    let sizes = c.requires.sizes in
    let len = burst.ensures.len in
    let all = as_many burst.result.count (length c.args.addrs.now) (length c.args.hops.now) sizes burst.ensures.count in
    let few : length burst.new.hops ≤ burst.result.count = omega (arith, all, sizes, len) in (
      record { lo = burst.result.lo; hi = burst.result.hi },
      all_found c.args.default c.args.addrs.now burst.new.hops burst.result.count burst.result.lo burst.result.hi _ _ (omega (arith, all)) few burst.ensures.answers,
    )
