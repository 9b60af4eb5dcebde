use Rattle.std.proofs.Common.{subst}
use Rattle.lpm_update.specs.Step.{Steps}
use Rattle.lpm_update.proofs.Promises.{plain_allows, run_goes_on, run_ends}
use Rattle.core_tests.proofs.tests.update.record.Goals as goal

pub step-requires-clause-allows : goal.step-requires-clause-allows
step-requires-clause-allows g c =
    let run = c.loop-did.invariant.run in
    plain_allows 4 4 c.loop-did.update c.loop-did.cells run.table run.under_way

pub returns-in-Done : goal.returns-in-Done
returns-in-Done g c =
    let steps = subst (λ d. Steps 4 4 c.loop-did.update c.loop-did.cells d c.step.new.self c.step.new.cells) c.in-Done.is c.step.ensures.steps in
    let run = run_goes_on 4 4 c.args.update c.args.cells.now c.step.result c.loop-did.update c.step.new.self c.loop-did.cells c.step.new.cells c.loop-did.invariant.run c.step.ensures.steps in
    record { represents = λ R R' known turns. (run_ends 4 4 R R' c.args.update c.args.cells.now c.step.new.self c.step.new.cells known turns run steps.stored.1).0 }
