use Rattle.std.proofs.Common.{◌≡◌, ◌+◌, ◌≤◌, ◌++◌, map, take, vec_len, vec_capacity}
use Rattle.std.specs.Prelude.{true}
use Rattle.storm.specs.Workers.{HoldsItsAnswers, number_of}
use Rattle.storm.proofs.workers.look_once.Given as goal

abbrev pub invariant-loop-i : goal.invariant-loop-i
invariant-loop-i g l = record {
  own : l.worker.pass.table ≡ l.fn.worker.pass.table;
  online : l.worker.pass.online ≡ true;
  seat : number_of l.worker ≡ number_of l.fn.worker;
  len : vec_len l.worker.answers ≡ vec_len l.fn.worker.answers + l.i;
  told : HoldsItsAnswers l.lookups.table.now l.worker;
  whole : map (λ x. x.0) l.worker.answers.items ≡ map (λ x. x.0) l.fn.worker.answers.items ++ take l.i l.lookups.addrs.now;
  capacity : vec_capacity l.fn.worker.answers ≤ vec_capacity l.worker.answers;
}
