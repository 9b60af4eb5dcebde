-- A handle may go to another thread, as what it holds may.
use mir.Raw.{raw}
use denote.Memory.{lone}
use denote.Struct.Struct.{exits_of}
use denote.Struct.Owning.{shape, fields, to}
use denote.Param.Send.{IsSend, AllSend, owning_send, struct_send, sendable}
use Rattle.std.proofs.Crossing as heap
use Rattle.std_alloc.proofs.SendSync.{quiet, lies}
use Rattle.std_heap.proofs.Global.TheSendSync as global
use mathlib.Core.Bool.{Bool}
use base.Shift.{Keyless}
use denote.RattleType.{RattleType}
use denote.RawPtr.{Ptr}
use Rattle.core.specs.declared.option.Option.{Option}
use Rattle.core.specs.declared.option.Option.TheVariants.{None, Some}
use Rattle.std_heap.specs.declared.Global.{Global}
use Rattle.saxiko_c.specs.OwnedTables.{handle_owns}
use Rattle.saxiko_c.proofs.HandleSteps.{Form, the_row, the_type}

keyless : (R : RattleType) → IsSend R → (a : Global) (p : Ptr) (flag : Bool) (held : Option R.Denot) → Keyless (handle_owns R a p flag held)
keyless R sends a p flag None = tt
keyless R sends a p flag (Some x) = (tt, (lies R sends p x, heap.frees.frees a (raw (lone R.mir)) p))

pub handle_send : (F : Form) → IsSend F.Held → IsSend (the_row F)
handle_send F sends =
    let all : AllSend (fields (the_type F)) = (search sendable, (search sendable, (global.the_field_send, tt))) in
    owning_send (the_type F) all (λ d. let x = F.look d in keyless F.Held sends x.1.1.0 x.0 x.1.0 x.1.1.1)
    (λ k. quiet (to (the_type F)) (exits_of k (fields (the_type F))) ((struct_send (shape (the_type F)) all).leaving k))
