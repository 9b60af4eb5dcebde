use Rattle.std.proofs.Common.{◌+◌, ◌∙◌, ap}
use Rattle.rayon.proofs.ListFacts.{IfOk-then}
use Rattle.rayon.proofs.ToStd.{slice-AllZip}
use Rattle.lpm_rules.specs.Longest.{IsLongestHop}
use Rattle.audit.proofs.answers.expect.Goals as goal

pub returns : goal.returns
returns g c =
    let slice = ap (λ it. it.slice.now) c.map.ensures.base ∙ c.par_iter.ensures in
    let rules = c.args.rules.now.rules in
    IfOk-then c.collect.result _ _ c.collect.ensures (λ v h.
    let chain = rw c.map.ensures.f at h.1 in
    rw h.2 (slice-AllZip chain.0 c.args.addrs.now (chain.1 ∙ slice) (IsLongestHop (g.row.FIRST + g.row.SECOND) rules) h.0 chain.2))
