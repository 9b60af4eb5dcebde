use Rattle.std.proofs.Common.{refl}
use Rattle.std.proofs.Math.Facts.{to_z-of_z}
use Rattle.saxiko_c.proofs.running_table_calls.take_back.Goals as goal

pub returns-in-Some : goal.returns-in-Some
returns-in-Some c =
    rw (
      to_z-of_z (record { sfits = c.put_back.type_inv }),
      c.in-Some.ensures.out,
      c.take.ensures.closed,
      ← c.into_inner.ensures,
    ) (refl, c.put_back.ensures)
