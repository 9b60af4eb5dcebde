use Rattle.std.proofs.Common.{◌≡◌}
use Rattle.std.specs.Prelude.{true}
use Rattle.fib_bench.proofs.passes.sum_by_fours.Given as goal

-- the pass is of this table, and online
abbrev pub invariant-loop-four : goal.invariant-loop-four
invariant-loop-four l = (l.pass.table ≡ l.table) × (l.pass.online ≡ true)
    × (goal.iterator-loop-four).can_next l.four-iterator
    × (goal.iterator-loop-four).is_finite l.four-iterator
