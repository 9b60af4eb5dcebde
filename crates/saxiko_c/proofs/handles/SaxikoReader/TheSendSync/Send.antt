-- It may go to another thread, as what it holds may.
use denote.Param.Send.{IsSend}
use Rattle.saxiko.proofs.reader.Reader.TheSendSync as held
use Rattle.saxiko_c.proofs.Forms.{reader_form}
use Rattle.saxiko_c.proofs.HandleSends.{handle_send}
use Rattle.saxiko_c.specs.contracts.handles.SaxikoReader.{the_row}

pub send : IsSend the_row
send = handle_send reader_form held.the_send
