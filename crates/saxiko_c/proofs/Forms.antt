-- The handles of C: what each holds.
use Rattle.std.proofs.Common.{refl}
use Rattle.saxiko_c.proofs.HandleSteps.{Form}
use Rattle.saxiko_c.specs.OwnedTables.{reader_row, table_row, writer_row}
use Rattle.saxiko_c.specs.contracts.handles.SaxikoReader as reader
use Rattle.saxiko_c.specs.contracts.handles.SaxikoTable as table
use Rattle.saxiko_c.specs.contracts.handles.SaxikoWriter as writer

abbrev pub table_form : Form
table_form = record {
  name = table.the_type.name;
  Held = table_row;
  D = table.the_type.D;
  look = λ h. (h.at, (h.is_open, (h.alloc, h.kept)));
  make = λ x. record { at = x.0; is_open = x.1.0; alloc = x.1.1.0; kept = x.1.1.1 };
  seen = λ x. refl;
  coded = table.the_type.coded;
  shr_at = table.the_type.shr_at;
}

abbrev pub writer_form : Form
writer_form = record {
  name = writer.the_type.name;
  Held = writer_row;
  D = writer.the_type.D;
  look = λ h. (h.at, (h.is_open, (h.alloc, h.kept)));
  make = λ x. record { at = x.0; is_open = x.1.0; alloc = x.1.1.0; kept = x.1.1.1 };
  seen = λ x. refl;
  coded = writer.the_type.coded;
  shr_at = writer.the_type.shr_at;
}

abbrev pub reader_form : Form
reader_form = record {
  name = reader.the_type.name;
  Held = reader_row;
  D = reader.the_type.D;
  look = λ h. (h.at, (h.is_open, (h.alloc, h.kept)));
  make = λ x. record { at = x.0; is_open = x.1.0; alloc = x.1.1.0; kept = x.1.1.1 };
  seen = λ x. refl;
  coded = reader.the_type.coded;
  shr_at = reader.the_type.shr_at;
}
