use Rattle.std.proofs.Common.{◌+◌, ap, sym, subst}
use Rattle.lpm_rules.specs.RuleMap.{RuleList, AllNetworks}
use Rattle.lpm_rules.specs.Longest.{IsLongestHop}
use Rattle.lpm_rules.proofs.Longest.{none_matches, hop_of_match}
use Rattle.lpm_rules.proofs.Rules.longest.Goals as goal

pub returns-in_err-rule : goal.returns-in_err-rule
returns-in_err-rule g c =
    let width = g.row.FIRST + g.row.SECOND in
    let nets = subst (AllNetworks width) (ap (λ (m : RuleList). m.rules) c.self.view_is) c.self.invariant.networks in
    subst (IsLongestHop width c.args.self.now.rules c.args.addr) (sym c.from_residual.ensures)
    (none_matches g.row.FIRST g.row.SECOND c.args.addr c.args.self.now.rules nets c.in_err-rule.ensures)

pub returns : goal.returns
returns g c =
    let width = g.row.FIRST + g.row.SECOND in
    let nets = subst (AllNetworks width) (ap (λ (m : RuleList). m.rules) c.self.view_is) c.self.invariant.networks in
    hop_of_match g.row.FIRST g.row.SECOND c.args.addr c.args.self.now.rules c.in_ok-rule.rule nets c.in_ok-rule.ensures
