use Rattle.std.proofs.Common.{◌≡◌}
use Rattle.std.specs.Prelude.{true}
use Rattle.fib_bench.proofs.passes.sum_of.Given as goal

-- the pass is of this table, and online
abbrev pub invariant-loop-addr : goal.invariant-loop-addr
invariant-loop-addr l = (l.pass.table ≡ l.table) × (l.pass.online ≡ true)
