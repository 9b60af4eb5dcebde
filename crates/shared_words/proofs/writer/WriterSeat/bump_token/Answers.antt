use Rattle.std.proofs.Common.{refl, arith}
use Rattle.lpm_trace.specs.declared.step.WriterStep.TheVariants.{BumpToken}
use Rattle.shared_words.proofs.WriterRule.{bump_allowed}
use Rattle.shared_words.proofs.WorkerSteps.{in_table, may_inside, next_inside}
use Rattle.shared_words.proofs.writer.WriterSeat.bump_token.Goals as goal

pub store-requires : goal.store-requires
store-requires g c = in_table c.table.view_is c.self.view_is c.requires.own (λ own. omega (arith, own.words))
    (bump_allowed _ _ _ _ _ c.self.invariant.role _ refl (next_inside (λ t. t.token) c.self.view_is c.requires.next)
    (may_inside BumpToken c.self.view_is c.requires.may))
