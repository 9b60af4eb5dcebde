use Rattle.std.proofs.Common.{arith, ◌-◌, ◌∙◌, ap, bit_and, ℕ}
use Rattle.std.proofs.lemmas.Nat.{one_shl, and_mask}
use Rattle.lpm_bits.proofs.Shape.second_index.Goals as goal

pub returns-clause-value : goal.returns-clause-value
returns-clause-value g c =
    ap (λ (n : ℕ). bit_and c.args.addr (n - 1)) (one_shl g.row.SECOND 32 (omega arith)) ∙ and_mask c.args.addr g.row.SECOND
