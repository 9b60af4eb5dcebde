use Rattle.std.proofs.Common.{◌≡◌}
use Rattle.std.specs.Prelude.{true}
use Rattle.fib_bench.proofs.passes.sum_reporting.Given as goal

-- the pass is of this table, and online
abbrev pub invariant-loop-some : goal.invariant-loop-some
invariant-loop-some l = (l.pass.table ≡ l.table)
    × (l.pass.online ≡ true)
    × (goal.iterator-loop-some).can_next l.some-iterator
    × (goal.iterator-loop-some).is_finite l.some-iterator
