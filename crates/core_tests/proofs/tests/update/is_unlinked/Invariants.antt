use Rattle.std.proofs.Common.{ℕ, ◌<◌}
use Rattle.lpm_update.specs.BlockGroups.{IsLinkTo}
use Rattle.core_tests.proofs.tests.update.is_unlinked.Given as goal

abbrev pub invariant-loop-block : goal.invariant-loop-block
invariant-loop-block l = record { none : (k g : ℕ) → k < l.block → IsLinkTo l.cells.firsts k g → ⊥ }
