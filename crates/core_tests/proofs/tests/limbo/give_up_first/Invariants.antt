use Rattle.std.proofs.Common.{◌≡◌}
use Rattle.core_tests.specs.RetiredGroups.{AreRetired}
use Rattle.core_tests.proofs.tests.limbo.give_up_first.Given as goal

abbrev pub invariant-loop-group : goal.invariant-loop-group
invariant-loop-group l = AreRetired l.tokens.items l.queue.items × (l.domain.counters ≡ l.initial.domain.counters) × (l.queue.capacity ≡ 3)
