use Rattle.std.proofs.Common.{◌≡◌, ◌*◌, ◌≤◌, length, map, vec_len, vec_capacity}
use Rattle.std.specs.Prelude.{true}
use Rattle.storm.specs.Workers.{HoldsItsAnswers, number_of, times}
use Rattle.storm.proofs.workers.look_rounds.Given as goal

abbrev pub invariant-loop-round : goal.invariant-loop-round
invariant-loop-round g l = record {
  own : l.worker.pass.table ≡ l.fn.worker.pass.table;
  online : l.worker.pass.online ≡ true;
  seat : number_of l.worker ≡ number_of l.fn.worker;
  len : vec_len l.worker.answers ≡ l.round * length l.lookups.addrs.now;
  told : HoldsItsAnswers l.lookups.table.now l.worker;
  whole : map (λ x. x.0) l.worker.answers.items ≡ times l.round l.lookups.addrs.now;
  capacity : vec_capacity l.fn.worker.answers ≤ vec_capacity l.worker.answers;
}
