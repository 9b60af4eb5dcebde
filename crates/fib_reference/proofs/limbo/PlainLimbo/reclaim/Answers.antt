use Rattle.defer_queue.proofs.Longest.{Reclaims-within}
use Rattle.fib_reference.proofs.limbo.PlainLimbo.reclaim.Goals as goal

pub drop_front-requires : goal.drop_front-requires
drop_front-requires c = Reclaims-within c.front-reclaimed.ensures
