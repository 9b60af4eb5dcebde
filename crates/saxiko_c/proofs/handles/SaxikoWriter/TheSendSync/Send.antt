-- It may go to another thread, as what it holds may.
use denote.Param.Send.{IsSend}
use Rattle.saxiko_c.proofs.owner.Owner.TheSendSync as held
use Rattle.saxiko_c.proofs.Forms.{writer_form}
use Rattle.saxiko_c.proofs.HandleSends.{handle_send}
use Rattle.saxiko_c.specs.contracts.handles.SaxikoWriter.{the_row}

pub send : IsSend the_row
send = handle_send writer_form held.the_send
