use Rattle.std.proofs.Common.{rules, ◌≡◌, slice_get}
use Rattle.defer_queue.proofs.Longest.{front_rest}
use Rattle.defer_queue.proofs.DeferQueue.front.Goals as goal

pub returns-clause-rest : goal.returns-clause-rest
returns-clause-rest c =
    let e : c.copied.result ≡ slice_get c.args.self.now.items 0 = search rules in
    rw e (front_rest c.args.self.now.items)
