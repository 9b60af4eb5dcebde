use Rattle.std.proofs.Common.{refl, arith}
use Rattle.lpm_trace.specs.declared.step.WriterStep.TheVariants.{EndUpdate}
use Rattle.shared_words.proofs.WriterRule.{closes_allowed}
use Rattle.shared_words.proofs.WorkerSteps.{in_table, may_inside, next_inside}
use Rattle.shared_words.proofs.writer.WriterSeat.end_update.Goals as goal

pub store-requires : goal.store-requires
store-requires g c = in_table c.table.view_is c.self.view_is c.requires.own (λ own. omega (arith, own.words))
    (closes_allowed _ _ _ _ _ c.self.invariant.role _ refl (next_inside (λ t. t.sequence) c.self.view_is c.requires.next)
    (may_inside EndUpdate c.self.view_is c.requires.may))
