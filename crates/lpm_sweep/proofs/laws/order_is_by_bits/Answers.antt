use Rattle.std.proofs.Common.{arith, inl, inr}
use Rattle.std.proofs.lemmas.Bool.{cases_lt}
use Rattle.lpm_sweep.proofs.laws.order_is_by_bits.Goals as goal

pub returns : goal.returns
returns c = λ p q a b. (
  (λ h. elim (cases_lt p.bits q.bits) [
    | inl less ↦ inl less
    | inr more ↦ inr (omega (arith, h, more, a, b), omega (arith, h, more, a, b))
  ]),
  (λ h. elim h [
    | inl less ↦ omega (arith, less, a)
    | inr same ↦ let bits = same.0 in let len = same.1 in omega (arith, bits, len)
  ]),
)
