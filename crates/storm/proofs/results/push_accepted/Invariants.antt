use Rattle.std.proofs.Common.{◌≡◌, ◌++◌, take}
use Rattle.storm.specs.Writer.{changes_by}
use Rattle.storm.proofs.results.push_accepted.Given as goal

abbrev pub invariant-loop-index : goal.invariant-loop-index
invariant-loop-index g l = l.changes.items ≡ l.fn.changes.items ++ changes_by (take l.index l.orders) (take l.index l.outcomes)
