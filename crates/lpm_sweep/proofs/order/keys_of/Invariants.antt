use Rattle.std.proofs.Common.{◌≡◌, ℕ, ◌<◌, length}
use Rattle.std.specs.Prelude.{slice_index}
use Rattle.lpm_sweep.specs.Keys.{key_at}
use Rattle.lpm_sweep.proofs.order.keys_of.Given as goal

abbrev pub invariant-loop-index : goal.invariant-loop-index
invariant-loop-index g l = record {
  all : length l.keys.items ≡ l.index;
  each : (i : ℕ) → i < l.index → slice_index l.keys.items i ≡ key_at l.rules i;
}
