use Rattle.std.proofs.Common.{◌≡◌, ℕ, ◌<◌, length, get_or, vec_len}
use Rattle.bulk.specs.declared.desk.Desk.{Desk}
use Rattle.bulk.specs.Pieces.{piece_of}
use Rattle.bulk.proofs.Meetings.{UpTo}
use Rattle.bulk.proofs.running_table.make_room.Given as goal

-- no pass has changed, and the desks so far have their room
abbrev pub invariant-loop-number : goal.invariant-loop-number
invariant-loop-number l = record {
  passes : UpTo (λ (old new : Desk). new.pass ≡ old.pass) l.number l.fn.desks l.desks;
  room : (k : ℕ) (d : Desk) → k < l.number → vec_len (get_or l.desks k d).hops ≡ length (piece_of l.addrs l.workers k);
}
