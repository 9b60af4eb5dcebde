use Rattle.std.proofs.Common.{◌≡◌, ◌≤◌, length, vec_len, vec_capacity}
use Rattle.storm.specs.Writer.{HasMade}
use Rattle.storm.proofs.writer.change_all.Given as goal

-- the commands before this place were made
abbrev pub invariant-loop-index : goal.invariant-loop-index
invariant-loop-index g l = record {
  made : HasMade l.updates.table.now l.updates.limits l.updates.orders.now l.recorder.outcomes.items l.recorder.writer;
  len : vec_len l.recorder.outcomes ≡ l.index;
  room : length l.updates.orders.now ≤ vec_capacity l.recorder.outcomes;
}
