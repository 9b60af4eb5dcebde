use Rattle.std.proofs.Common.{◌∙◌, ◌↔◌, ap, drop}
use Rattle.std.specs.Prelude.{IsTrue}
use Rattle.rayon.proofs.ListFacts.{IfOk-then}
use Rattle.rayon.proofs.ToStd.{slice-AllZip}
use Rattle.audit.specs.Wrong.{IsOfSomeVersion, version_of}
use Rattle.audit.proofs.past.Past.marks.Goals as goal

pub returns : goal.returns
returns g c =
    let slice = ap (λ it. it.slice.now) c.map.ensures.base ∙ c.par_iter.ensures in
    IfOk-then c.collect.result _ _ c.collect.ensures (λ v h.
    let chain = rw c.map.ensures.f at h.1 in
    rw h.2 (slice-AllZip chain.0 c.args.answers.now (chain.1 ∙ slice) (λ x mark. IsTrue mark ↔ IsOfSomeVersion (version_of c.args.self.now c.args.start) (drop c.args.start c.args.self.now) x) h.0 chain.2))
