use Rattle.std.proofs.Common.{◌^◌, ◌<◌}
use Rattle.std.specs.List.{AllWithin}
use Rattle.program_tests.proofs.tests.wrong_answers.read_addresses.Given as goal

-- the addresses before this one have 32 bits
abbrev pub invariant-loop-x : goal.invariant-loop-x
invariant-loop-x l = AllWithin (λ x. x.0 < 2 ^ 32) l.answers 0 l.x-index
