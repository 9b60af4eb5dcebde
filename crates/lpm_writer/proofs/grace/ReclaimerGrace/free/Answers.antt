use Rattle.std.proofs.Common.{sym, subst}
use Rattle.lpm_writer.specs.Commands.{IsReclaimable}
use Rattle.lpm_writer.proofs.grace.ReclaimerGrace.free.Goals as goal

pub returns-clause-ready : goal.returns-clause-ready
returns-clause-ready g c = λ token rest h.
    let s = c.args.self.now in
    subst (λ states. IsReclaimable g.M.Memory.did s.memory.now states s.passed.now rest) (sym c.release.ensures) h.behind
