use Rattle.std.proofs.Common.{inl, inr, ap, Err}
use Rattle.lpm_files.specs.declared.failure.Failure.{Failure}
use Rattle.lpm_program.proofs.RunEnds.{cannot_write}
use Rattle.lpm_program.proofs.Causes.{asks_for, refused_cause}
use Rattle.lpm_program.proofs.run.run.Goals as goal

pub returns-in-Ok-perform-clause-done : goal.returns-in-Ok-perform-clause-done
returns-in-Ok-perform-clause-done g c = λ _. inr (c.in-Ok.line, (asks_for _ _ c.in-Ok.ensures.asked c.in-Ok.ensures.accepted c.in-Ok.ensures.in_range c.in-Ok.ensures.one_input, c.in-Ok-perform.ensures.done))

pub returns-in-Err-clause-cause : goal.returns-in-Err-clause-cause
returns-in-Err-clause-cause g c = refused_cause _ _ c.in-Err.refused _ c.refuse.ensures.cause c.in-Err.ensures.refused

pub returns-in-Err-perform-clause-cause : goal.returns-in-Err-perform-clause-cause
returns-in-Err-perform-clause-cause g c = λ _.
    let asks = asks_for _ _ c.in-Ok.ensures.asked c.in-Ok.ensures.accepted c.in-Ok.ensures.in_range c.in-Ok.ensures.one_input in
    inr (inr (inr (c.in-Ok.line, (c.in-Err-perform.failure, asks, c.in-Err-perform.ensures.failure, c.fail.ensures))))

pub returns-in-Err-perform-clause-begun : goal.returns-in-Err-perform-clause-begun
returns-in-Err-perform-clause-begun g c = λ _. elim (cannot_write c.in-Err-perform.failure) [
  | inl e ↦ inr (inr (c.in-Ok.line, (asks_for _ _ c.in-Ok.ensures.asked c.in-Ok.ensures.accepted c.in-Ok.ensures.in_range c.in-Ok.ensures.one_input, c.in-Err-perform.ensures.begun (ap (λ (x : Failure). Err x) e))))
  | inr n ↦ inl (c.in-Err-perform.ensures.untouched n)
]
