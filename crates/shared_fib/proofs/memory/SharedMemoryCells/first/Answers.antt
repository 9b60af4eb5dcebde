use Rattle.std.proofs.Common.{length, ap, arith, rules}
use Rattle.shared_words.specs.Layout.{InitialData, initial_state_of}
use Rattle.shared_words.proofs.WordPlaces.{firsts_length}
use Rattle.shared_fib.specs.LentSeats.{LentSeat, state_of_lent}
use Rattle.shared_fib.proofs.memory.SharedMemoryCells.first.Goals as goal

pub stored_first-requires-clause-index : goal.stored_first-requires-clause-index
stored_first-requires-clause-index g c =
    let v = c.self.inside.seat.now.view in
    let own = c.self.invariant.0 in
    omega (
      arith,
      c.requires,
      firsts_length (initial_state_of v.initial) v.writer_steps,
      ap (λ (o : InitialData). length o.firsts) own.initial_is,
      ap (λ (m : LentSeat). length (state_of_lent m).words.firsts) c.self.view_is,
      own.firsts,
    )

pub returns-clause-value : goal.returns-clause-value
returns-clause-value c = search rules
