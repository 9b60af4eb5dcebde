use Rattle.lpm_update.specs.Update.{places_left}
use Rattle.lpm_update.specs.Laws.{HasCome}
use Rattle.core_tests.proofs.tests.update.record.Given as goal

abbrev pub invariant-loop-did : goal.invariant-loop-did
invariant-loop-did g l = record { run : HasCome 4 4 l.fn.update l.fn.cells l.update l.cells }

abbrev pub decreases-loop-did : goal.decreases-loop-did
decreases-loop-did g l = places_left 4 4 l.update
