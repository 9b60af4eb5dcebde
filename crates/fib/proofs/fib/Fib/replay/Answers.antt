use Rattle.fib.proofs.Replays.{is_replay}
use Rattle.fib.proofs.fib.Fib.replay.Goals as goal

pub returns-clause-replay : goal.returns-clause-replay
returns-clause-replay g c =
    let told = c.in_ok-replay_here.ensures in
    is_replay g.row.FIRST g.row.SECOND c.args.config c.in_ok-fib.fib c.replay_here.new.self.table c.args.orders.now c.args.addrs.now _ c.in_ok-fib.ensures.opened told.textbook told.asked
