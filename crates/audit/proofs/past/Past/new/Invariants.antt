use Rattle.std.proofs.Common.{ℕ, ◌≡◌, ◌<◌, length}
use Rattle.std.specs.Prelude.{slice_index_or}
use Rattle.audit.specs.Index.{AreEventsUpTo, AreOrdered}
use Rattle.audit.proofs.past.Past.new.Given as goal

-- the events of each length before this one
abbrev pub invariant-loop-len : goal.invariant-loop-len
invariant-loop-len g l =
    (length l.lengths.items ≡ l.len)
    × ((n : ℕ) (d : _) → n < l.len → AreEventsUpTo l.history n (length l.history) (slice_index_or l.lengths.items n d).items)
    × ((n : ℕ) (d : _) → n < l.len → AreOrdered (slice_index_or l.lengths.items n d).items)
