use Rattle.std.proofs.Common.{◌≡◌, length, take, vec_len}
use Rattle.std.specs.Prelude.{true}
use Rattle.shared_words.specs.Rule.{IsLater}
use Rattle.bulk.specs.Desks.{AnswersAtRest}
use Rattle.bulk.proofs.running_table.answer.Given as goal

-- the pass stays online, the room is as it was, and the addresses up to here have their next hops
abbrev pub invariant-loop-i : goal.invariant-loop-i
invariant-loop-i g l = record {
  own : l.pass.table ≡ l.table;
  worker : l.pass.worker ≡ l.initial.pass.worker;
  online : l.pass.online ≡ true;
  later : IsLater l.initial.pass.writer_steps l.pass.writer_steps;
  room : vec_len l.hops ≡ length l.addrs;
  answered : AnswersAtRest l.table (take l.i l.addrs) (take l.i l.hops.items) l.initial.pass.writer_steps l.pass.writer_steps;
}
