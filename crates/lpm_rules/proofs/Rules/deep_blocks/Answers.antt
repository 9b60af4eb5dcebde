use Rattle.std.proofs.Common.{arith, ◌≡◌, ◌+◌, ◌*◌, ◌%◌, ◌^◌, ap, subst}
use Rattle.std.proofs.lemmas.Nat.{one_shl}
use Rattle.lpm_rules.specs.Deep.{deep_blocks}
use Rattle.lpm_rules.specs.RuleMap.{RuleList, AllNetworks}
use Rattle.lpm_rules.proofs.Deep.{before_all, before_more, before_none, deep_below, has_deep_blocks}
use Rattle.lpm_rules.proofs.Rules.deep_blocks.Goals as goal

pub loop-block-init : goal.loop-block-init
loop-block-init g c =
    let first = g.row.FIRST in
    let second = g.row.SECOND in
    let R = c.args.self.now.rules in
    let nets = subst (AllNetworks (first + second)) (ap (λ (m : RuleList). m.rules) c.self.view_is) c.self.invariant.networks in
    let end : 1 * 2 ^ first % 18446744073709551616 ≡ 2 ^ first = one_shl first 64 (omega arith) in
    let all = before_all (deep_blocks first second R) (1 * 2 ^ first % 18446744073709551616) (λ i has.
    let below = deep_below first second R i nets ((has_deep_blocks first second R i).0 has) in
    omega (arith, end, below)) in
    (omega (arith, all), omega (arith, end))

pub loop-block-preserved : goal.loop-block-preserved
loop-block-preserved g c =
    let blocks = deep_blocks g.row.FIRST g.row.SECOND c.args.self.now.rules in
    let has = has_deep_blocks g.row.FIRST g.row.SECOND c.args.self.now.rules in
    let last = c.in-Some.ensures in
    let below = last.1 in
    let fewer = before_more blocks c.in-Some.block c.loop-block.end ((has c.in-Some.block).1 last.0) below (λ i in_set l. last.2 i ((has i).0 in_set) l) in
    let so_far = c.loop-block.invariant.0 in
    let most = c.loop-block.invariant.1 in
    (omega (arith, fewer, so_far), omega (arith, most, below))

pub returns : goal.returns
returns g c =
    let has = has_deep_blocks g.row.FIRST g.row.SECOND c.args.self.now.rules in
    let none = before_none (deep_blocks g.row.FIRST g.row.SECOND c.args.self.now.rules) c.loop-block.end (λ i in_set l. c.in_default.ensures i ((has i).0 in_set) l) in
    let so_far = c.loop-block.invariant.0 in
    omega (arith, none, so_far)
