use Rattle.std.proofs.Common.{◌≡◌}
use Rattle.std.specs.Prelude.{true}
use Rattle.fib_bench.proofs.passes.sum_by_pieces.Given as goal

-- the pass is of this table, and online
abbrev pub invariant-loop-took : goal.invariant-loop-took
invariant-loop-took g l = (l.pass.table ≡ l.table) × (l.pass.online ≡ true)
