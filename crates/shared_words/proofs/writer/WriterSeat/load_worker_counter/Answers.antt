use Rattle.std.proofs.Common.{rules}
use Rattle.lpm_trace.specs.declared.step.WriterStep.TheVariants.{LoadCounter}
use Rattle.shared_words.proofs.WorkerSteps.{may_inside}
use Rattle.shared_words.proofs.WriterRule.{counter_allowed}
use Rattle.shared_words.proofs.writer.WriterSeat.load_worker_counter.Goals as goal

pub load_as-requires-clause-allowed : goal.load_as-requires-clause-allowed
load_as-requires-clause-allowed g c =
    counter_allowed _ _ _ _ _ c.self.invariant.role c.args.token c.args.worker (search rules) (search rules)
    (λ counter.
    may_inside (LoadCounter c.args.token c.args.worker counter) c.self.view_is (c.requires.may counter))
