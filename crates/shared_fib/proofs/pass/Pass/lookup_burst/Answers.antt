use Rattle.std.proofs.Common.{arith, rules, ◌≡◌, ◌∙◌}
use Rattle.std.specs.Prelude.{min, max}
use Rattle.shared_fib.proofs.Lookups.{burst_after, rest_after}
use Rattle.shared_fib.proofs.pass.Pass.lookup_burst.Goals as goal

pub loop-burst-preserved : goal.loop-burst-preserved
loop-burst-preserved c =
    let l = c.loop-burst in
    let p = c.lookup_piece-piece in
    let lo : c.min.result ≡ min l.burst.lo p.result.lo = search rules in
    let hi : c.max.result ≡ max l.burst.hi p.result.hi = search rules in
    record {
      own = p.ensures.own ∙ l.invariant.own;
      online = p.ensures.online;
      within = p.ensures.within;
      len = p.ensures.len ∙ l.invariant.len;
      rest = rest_after p.new.hops l.hops c.args.hops.now l.burst.count p.result.count (omega (arith, p.ensures.more))
          p.ensures.rest l.invariant.rest;
      answers = burst_after c.args.default c.args.addrs.now l.hops p.new.hops l.burst.count p.result.count
          l.burst.lo l.burst.hi p.result.lo p.result.hi c.min.result c.max.result
          c.args.self.now l.self p.new.self l.invariant.answers p.ensures.answers lo hi;
    }
