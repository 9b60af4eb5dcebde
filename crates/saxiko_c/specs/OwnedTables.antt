-- This layer's own: what a handle owns: nothing, or a box with a table.
use Rattle.std.specs.Prelude.{Bool, true, false, Option, Some, None}
use base.Fml.{Fml, fsep, feq}
use base.Stored.{Coded}
use denote.RattleType.{RattleType}
use denote.RawPtr.{Ptr}
use denote.Param.{number}
use Rattle.std.specs.Coded.{coded_option}
use Rattle.std.specs.Box.Ownership.{box_owns}
use Rattle.std.specs.Global.{Global}
use Rattle.std_heap.specs.contracts.GlobalAllocator.TheImpl.{ghosts}
use Rattle.fib.specs.Fib.{FibState, coded_fib_state}
use Rattle.fib.specs.contracts.fib.Fib as fib
use Rattle.shared_fib.specs.Passes.{PassState, coded_pass}
use Rattle.saxiko.specs.contracts.reader.Reader as reader
use Rattle.saxiko_c.specs.RunningTable.{StagedOwner, coded_owner}
use Rattle.saxiko_c.specs.contracts.owner.Owner as owner

abbrev pub table_row : RattleType
table_row = fib.the_row (number 24) (number 8)

abbrev pub writer_row : RattleType
writer_row = owner.the_row

abbrev pub reader_row : RattleType
reader_row = reader.the_row

abbrev pub coded_table_kept : Coded (Option FibState)
coded_table_kept = coded_option coded_fib_state

abbrev pub coded_writer_kept : Coded (Option StagedOwner)
coded_writer_kept = coded_option coded_owner

abbrev pub coded_reader_kept : Coded (Option PassState)
coded_reader_kept = coded_option coded_pass

abbrev pub handle_owns : (R : RattleType) → Global → Ptr → Bool → Option R.Denot → Fml
handle_owns R alloc at flag None = feq Bool flag false
handle_owns R alloc at flag (Some x) = fsep (feq Bool flag true) (box_owns (ghosts.dealloc_token alloc) R at x)
