use Rattle.std.proofs.Common.{arith, ◌^◌, ◌<◌}
use Rattle.std.proofs.lemmas.List.Elements.{AllWithin-more, at_read}
use Rattle.program_tests.proofs.tests.wrong_answers.read_addresses.Goals as goal

pub loop-x-preserved : goal.loop-x-preserved
loop-x-preserved c =
    AllWithin-more (λ x. x.0 < 2 ^ 32) c.args.answers.now 0 c.loop-x.x-index c.loop-x.invariant
    (at_read c.args.answers.now (λ x. x.0 < 2 ^ 32) c.loop-x.x-index c.x-item.result (omega arith) c.x-item.is c.read_address.ensures)
