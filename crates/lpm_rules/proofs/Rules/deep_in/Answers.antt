use Rattle.std.proofs.Common.{arith, ◌≡◌, ◌+◌, ◌<◌, length, ap, sym, ◌∙◌, subst, ◌↔◌}
use Rattle.std.specs.FinMap as map
use Rattle.std.proofs.lemmas.List.Sums.{count_by-le-length}
use Rattle.lpm_rules.specs.Deep.{IsDeepBlock}
use Rattle.lpm_rules.specs.RuleMap.{RuleList, AllNetworks}
use Rattle.lpm_rules.proofs.Counts.{size_of_keys}
use Rattle.lpm_rules.proofs.Deep.{is_deep_below, deep_init, deep_more, deep_all, deep_some, deep_none}
use Rattle.lpm_rules.proofs.Rules.deep_in.Goals as goal

pub loop-len-init : goal.loop-len-init
loop-len-init g c = sym (deep_init g.row.FIRST g.row.SECOND c.args.block (map.keys c.args.self.now.rules))

pub overflow_add-count : goal.overflow_add-count
overflow_add-count g c =
    let keys = map.keys c.args.self.now.rules in
    let more = deep_more g.row.FIRST g.row.SECOND c.args.block c.loop-len.len keys (omega arith) in
    let so_far = c.loop-len.invariant in
    let here = c.count_in-count.ensures in
    let most = count_by-le-length (is_deep_below g.row.FIRST g.row.SECOND c.args.block (c.loop-len.len + 1)) keys in
    let size : length keys ≡ c.self.inside.count =
    size_of_keys c.args.self.now.rules ∙ ap (λ (m : RuleList). map.len m.rules) (sym c.self.view_is) ∙ sym c.self.invariant.counted in
    omega (arith, more, so_far, here, most, size)

pub loop-len-preserved : goal.loop-len-preserved
loop-len-preserved g c =
    let more = deep_more g.row.FIRST g.row.SECOND c.args.block c.loop-len.len (map.keys c.args.self.now.rules) (omega arith) in
    let so_far = c.loop-len.invariant in
    let here = c.count_in-count.ensures in
    omega (arith, more, so_far, here)

pub returns-2-clause-value : goal.returns-2-clause-value
returns-2-clause-value g c =
    let more = deep_more g.row.FIRST g.row.SECOND c.args.block c.loop-len.len (map.keys c.args.self.now.rules) (omega arith) in
    let so_far = c.loop-len.invariant in
    let here = c.count_in-count.ensures in
    let nets = subst (AllNetworks (g.row.FIRST + g.row.SECOND)) (ap (λ (m : RuleList). m.rules) c.self.view_is) c.self.invariant.networks in
    let all = deep_all g.row.FIRST g.row.SECOND c.args.block (c.loop-len.len + 1) c.args.self.now.rules nets (omega arith) in
    omega (arith, more, so_far, here, all)

pub returns-2-clause-some : goal.returns-2-clause-some
returns-2-clause-some g c =
    subst (λ n. (0 < n) ↔ IsDeepBlock g.row.FIRST g.row.SECOND c.args.self.now.rules c.args.block) (sym (returns-2-clause-value g c))
    (deep_some g.row.FIRST g.row.SECOND c.args.self.now.rules c.args.block)

pub returns-2-clause-none : goal.returns-2-clause-none
returns-2-clause-none g c =
    deep_none g.row.FIRST g.row.SECOND c.args.self.now.rules c.args.block _ (returns-2-clause-value g c)
