use Rattle.std.proofs.Common.{refl, rules}
use Rattle.lpm_trace.specs.declared.step.WriterStep.TheVariants.{BeginUpdate}
use Rattle.shared_words.proofs.WorkerSteps.{may_inside}
use Rattle.shared_words.proofs.WriterRule.{opens_allowed}
use Rattle.shared_words.proofs.writer.WriterSeat.begin_update.Goals as goal

pub store_as-requires-clause-allowed : goal.store_as-requires-clause-allowed
store_as-requires-clause-allowed g c =
    opens_allowed _ _ _ _ _ c.self.invariant.role _ c.args.change.now refl (search rules)
    (may_inside (BeginUpdate c.args.change.now) c.self.view_is c.requires.may)
