use Rattle.std.proofs.Math.Facts.{to_z-of_z}
use Rattle.saxiko_c.proofs.table_calls.saxiko_proved_table_lookup_bulk.Goals as goal

pub returns-in-Some-clause-found : goal.returns-in-Some-clause-found
returns-in-Some-clause-found c = rw (to_z-of_z (record { sfits = c.lookup_all-status.type_inv }), c.in-Some.ensures.out, ← c.deref.ensures) c.lookup_all-status.ensures
