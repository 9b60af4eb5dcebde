use Rattle.std.proofs.Common.{arith, ◌≡◌, ℕ, ◌*◌, ◌/◌, ◌^◌, ◌<◌, ◌↔◌, IsTrue, nat_eq, eq-eqb, ◌∙◌, ap}
use Rattle.std.proofs.lemmas.Nat.{pow_pos, div-add-mod', mod_below, div_below}
use borrow.Author.Tests.{eqb-true}

pub div_zero : (n k : ℕ) → 0 < k → n / k ≡ 0 → n < k
div_zero n k h e =
    let s = div-add-mod' n k in
    let m = mod_below n k h in
    let z : n / k * k ≡ 0 = ap (λ x. x * k) e ∙ omega arith in
    omega (arith, s, m, z)

-- a shift by all the bits of an address leaves nothing
pub shifted_out : (n w : ℕ) → IsTrue (nat_eq (n / 2 ^ w) 0) ↔ (n < 2 ^ w)
shifted_out n w = (
  (λ t. div_zero n (2 ^ w) (pow_pos w) (eqb-true _ _ t)),
  (λ h. eq-eqb _ _ (let b = div_below n (2 ^ w) 1 (pow_pos w) (omega arith) in omega (arith, b))),
)
