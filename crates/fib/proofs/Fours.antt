-- The places of a list of four.
use Rattle.std.proofs.Common.{arith, ℕ, zero, suc, ◌<◌}

pub four : (P : ℕ → Type 0) → P 0 → P 1 → P 2 → P 3 → (i : ℕ) → i < 4 → P i
four P a b c d zero low = a
four P a b c d (suc zero) low = b
four P a b c d (suc (suc zero)) low = c
four P a b c d (suc (suc (suc zero))) low = d
four P a b c d (suc (suc (suc (suc i)))) low = absurd (omega (arith, low))
