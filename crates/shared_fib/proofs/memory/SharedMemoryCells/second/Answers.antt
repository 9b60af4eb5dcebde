use Rattle.std.proofs.Common.{length, ap, arith, rules}
use Rattle.shared_words.specs.Layout.{InitialData, initial_state_of}
use Rattle.shared_words.proofs.WordPlaces.{seconds_length}
use Rattle.shared_fib.specs.LentSeats.{LentSeat, state_of_lent}
use Rattle.shared_fib.proofs.memory.SharedMemoryCells.second.Goals as goal

pub stored_second-requires-clause-index : goal.stored_second-requires-clause-index
stored_second-requires-clause-index g c =
    let v = c.self.inside.seat.now.view in
    let own = c.self.invariant.0 in
    omega (
      arith,
      c.requires,
      seconds_length (initial_state_of v.initial) v.writer_steps,
      ap (λ (o : InitialData). length o.seconds) own.initial_is,
      ap (λ (m : LentSeat). length (state_of_lent m).words.seconds) c.self.view_is,
      own.seconds,
    )

pub returns-clause-value : goal.returns-clause-value
returns-clause-value c = search rules
