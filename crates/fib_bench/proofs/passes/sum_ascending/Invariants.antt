use Rattle.std.proofs.Common.{◌≡◌}
use Rattle.std.specs.Prelude.{true}
use Rattle.fib_bench.proofs.passes.sum_ascending.Given as goal

-- the pass is of this table, and online
abbrev pub invariant-loop-place : goal.invariant-loop-place
invariant-loop-place l = (l.pass.table ≡ l.table) × (l.pass.online ≡ true)
