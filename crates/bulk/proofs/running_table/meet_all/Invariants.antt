use Rattle.std.proofs.Common.{◌≡◌}
use Rattle.bulk.specs.Desks.{HasMet}
use Rattle.bulk.proofs.Meetings.{UpTo}
use Rattle.bulk.proofs.running_table.meet_all.Given as goal

-- the passes so far have met the writer, which is as it was
abbrev pub invariant-loop-number : goal.invariant-loop-number
invariant-loop-number g l = record {
  met : UpTo (HasMet l.fn.writer) l.number l.fn.desks l.desks;
  same : l.writer ≡ l.fn.writer;
}
