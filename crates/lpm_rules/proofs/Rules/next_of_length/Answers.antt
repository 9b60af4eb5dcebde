use Rattle.std.proofs.Common.{rules, ◌≡◌, ◌+◌, ap, sym, subst, Some}
use Rattle.lpm_bits.specs.Network.{Network, prefix_of}
use Rattle.lpm_rules.specs.RuleMap.{RuleList, AllNetworks, IsNextOfLength}
use Rattle.lpm_rules.proofs.Views.{at_network}
use Rattle.lpm_rules.proofs.NextRules.{next_has, next_after, next_least, same_prefix}
use Rattle.lpm_rules.proofs.Rules.next_of_length.Goals as goal

pub returns : goal.returns
returns g c =
    let R = c.args.self.now.rules in
    let width = g.row.FIRST + g.row.SECOND in
    let bits = c.in_ok-bits.bits.now in
    let hop = c.in_ok-bits.hop.now in
    let len = c.args.len in
    let nets = subst (AllNetworks width) (ap (λ (m : RuleList). m.rules) c.self.view_is) c.self.invariant.networks in
    let has = next_has R c.of_length-length.result.now len c.args.after.now c.first_bits-start.result c.range.result c.of_length-length.ensures c.first_bits-start.ensures (c.range.ensures.in_range tt) bits hop c.next.new.self c.in_ok-bits.ensures.steps in
    let past = next_after R c.of_length-length.result.now len c.args.after.now c.first_bits-start.result c.range.result c.of_length-length.ensures c.first_bits-start.ensures (c.range.ensures.in_range tt) bits hop c.next.new.self c.in_ok-bits.ensures.steps in
    let least = next_least R c.of_length-length.result.now len c.args.after.now c.first_bits-start.result c.range.result c.of_length-length.ensures c.first_bits-start.ensures (c.range.ensures.in_range tt) bits hop c.next.new.self c.in_ok-bits.ensures.steps in
    let made : c.in_ok-prefix.prefix ≡ prefix_of width len bits = search rules in
    let is : c.in_ok-prefix.prefix ≡ at_network bits len = same_prefix width len bits hop R c.in_ok-prefix.prefix nets has made in
    subst (λ (p : Network). IsNextOfLength {first = g.row.FIRST} {second = g.row.SECOND} len R c.args.after.now (Some (record { prefix = p; hop = hop }))) (sym is) (has, past, least)
