use Rattle.lpm_sweep.proofs.KeyOrder.{AreTaken}
use Rattle.lpm_sweep.proofs.order.in_order.Given as goal

abbrev pub invariant-loop-key : goal.invariant-loop-key
invariant-loop-key g l = AreTaken l.rules l.key-items l.sorted.items l.key-index
